use Rattle.std.proofs.Common.{◌≡◌, ℕ, zero, suc, ◌+◌, ◌*◌, ◌/◌, ◌<◌, List, [], map, length, take, drop, get_or, set, length-take, refl, ap, ◌∙◌, arith}
use Rattle.std.specs.List.{range_with_len}
use Rattle.std.specs.Simd.{first_chunks}
use Rattle.std.proofs.lemmas.List.{drop-drop}
use Rattle.std.proofs.lemmas.List.Edits.{fill_by_more}
use Rattle.polynomial.specs.Polynomials.{value}
use Rattle.run_model.specs.Model.{decided_bit, decided_bits, decided_payload}
use Rattle.run_tables.proofs.Written.{written}
use Rattle.run_tables.proofs.Decided.{of_part}
use Rattle.run_tables.proofs.bits.take_payload.Goals as goal

-- byte k of the payload
abbrev byte : List ℕ → ℕ → ℕ
byte d k = value (map (decided_bit d) (range_with_len (8 * k) 8))

-- the eights of a list
eight : (k : ℕ) (d : List ℕ) (i : ℕ) → i < k → get_or (first_chunks 8 k d) i [] ≡ take 8 (drop (8 * i) d)
eight zero d i h = absurd (omega arith)
eight (suc k) d zero h = refl
eight (suc k) d (suc i) h = eight k (drop 8 d) i (omega arith) ∙ ap (take 8) (drop-drop (8 * i) 8 d ∙ ap (λ n. drop n d) (omega arith))

more : (d bytes : List ℕ) (eights : List (List ℕ)) (i y : ℕ) → eights ≡ first_chunks 8 (length d / 8) d → i < length d / 8 → i < length bytes → y ≡ value (decided_bits 8 (get_or eights i [])) → ((k : ℕ) → k < i → get_or bytes k 0 ≡ byte d k) → (k : ℕ) → k < i + 1 → get_or (set bytes i y) k 0 ≡ byte d k
more d bytes eights i y all low h e inv =
    let at : get_or eights i [] ≡ take 8 (drop (8 * i) d) = ap (λ xs. get_or xs i []) all ∙ eight (length d / 8) d i low in
    let b : y ≡ byte d i = e ∙ ap (λ bits. value (decided_bits 8 bits)) at ∙ ap value (of_part d (8 * i) 8) in
    rw b (fill_by_more (byte d) bytes i 0 h inv)

pub loop-i-preserved : goal.loop-i-preserved
loop-i-preserved c = more c.args.d.now _ _ c.loop-i.i _ c.as_chunks.ensures.front (omega (arith, length-take c.bytes.result c.args.out.now)) (omega arith) c.byte_of.ensures.value c.loop-i.invariant

pub returns : goal.returns
unfolding decided_payload
returns c =
    record { after = written (byte c.args.d.now) c.args.plan.values.bytes _ _ 0 _ _ c.bytes.ensures.value c.requires.1 (omega arith) c.loop-i-test.false c.loop-i.invariant }
