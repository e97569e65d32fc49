use Rattle.paths.proofs.Products.{products_are_joins}
use Rattle.paths.proofs.laws.products_hold.Goals as goal

pub returns : goal.returns
returns g c = products_are_joins {fine = g.W.Weights.fine} {o = g.W.Weights.ops}
