-- Each word is what the closure gives.
use Rattle.std.proofs.Common.{◌<◌, length, drop, ◌∙◌, rules}
use Rattle.std.proofs.lemmas.List.{get_or_append_left}
use Rattle.paths.proofs.Filled.{filled}
use Rattle.marginals.proofs.frame.clear.Goals as goal

pub returns-clause-clear : goal.returns-clause-clear
returns-clause-clear g c w h =
    let within : w < length c.fill_with.new.self = search rules in
    get_or_append_left c.fill_with.new.self (drop c.word_count.result c.args.words.now) g.W.Weights.ops.none w within
    ∙ filled _ g.W.Weights.ops.none (λ p x q ran. search rules) c.fill_with.new.self _ _ c.fill_with.ensures.ran.1 w
