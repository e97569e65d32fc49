-- Each stage is told of by the work table, and its bits take their places in the buffer.
use Rattle.std.proofs.Common.{◌≡◌, ℕ, ◌+◌, ◌-◌, ◌*◌, length, get_or, take, drop, ◌<◌, List, ℤ, pos, None, Option, sym, refl, ap, ◌∙◌, length-take, arith}
use Rattle.std.proofs.lemmas.List.{get_or-take}
use Rattle.std.proofs.lemmas.Slice.{drop-put_mid}
use Rattle.std.proofs.lemmas.List.FromFn.{fill_by_all, get_or-map-range_with_len}
use Rattle.std.proofs.lemmas.Nat.{div-mul-add, mod-mul-add}
use Rattle.paths.specs.Trellises.{Meaning}
use Rattle.marginals.proofs.Frames.{part_entry}
use Rattle.modulo.specs.Priors.{told_of}
use Rattle.trellises.specs.declared.inner.Inner.{Inner}
use Rattle.trellises.specs.Inner.{inner}
use Rattle.extrinsics.specs.Extrinsics.{reliability_of}
use Rattle.ways.specs.WorkTables.{work_entry}
use Rattle.inner_pass.specs.InnerPass.{inner_extrinsic, inner_extrinsics}
use Rattle.inner_pass.proofs.Blocks.{within, block_more}
use Rattle.inner_pass.proofs.inner_pass.Goals as goal

-- what the same trellis means
same_meaning : (t u : Inner) → t ≡ u → inner t.m t.n t.rows.now t.priors.now ≡ inner u.m u.n u.rows.now u.priors.now
same_meaning t u e = ap (λ (t : Inner). inner t.m t.n t.rows.now t.priors.now) e

-- the number told about bit b of symbol k is that about interleaved bit k * m + b
placed : (m n : ℕ) (rows : List ℕ) (priors : List ℤ) (t : Meaning) (k i b : ℕ) (bits : List (Option ℤ)) (prior : ℤ) → b < m → t ≡ inner m n rows priors → i ≡ k → get_or bits b None ≡ reliability_of 2 t i b
    → prior ≡ get_or priors (k * m + b) (pos 0) → told_of (get_or bits b None) prior ≡ inner_extrinsic m n rows priors (k * m + b)
placed m n rows priors t k i b bits prior l e is h p =
    ap (λ r. told_of r prior) (h ∙ ap (λ t. reliability_of 2 t i b) e ∙ ap (λ k. reliability_of 2 (inner m n rows priors) k b) is)
    ∙ ap (told_of (reliability_of 2 (inner m n rows priors) k b)) p
    ∙ rw (div-mul-add k m b l, mod-mul-add k m b l) refl

pub stage_reliabilities-requires : goal.stage_reliabilities-requires
stage_reliabilities-requires c =
    let t = c.new.result.trellis.now in
    let e = c.new.ensures.trellis in
    let n : t.n ≡ c.args.t.now.n = ap (λ (t : Inner). t.n) e in
    record {
      long = omega arith;
      worked = λ p h. c.work.ensures.table p (omega arith) ∙ ap (λ m. work_entry c.args.way 2 m p) (sym (same_meaning t c.args.t.now e));
      cheap = omega arith;
      served = λ e. (omega arith, omega arith);
    }

pub loop-k-preserved : goal.loop-k-preserved
loop-k-preserved c =
    let t = c.args.t.now in
    let m = t.m in
    let k = c.loop-k.k in
    let h = within k t.n m c.loop-k-test.true in
    let means = same_meaning c.new.result.trellis.now t c.new.ensures.trellis in
    let bits : c.new.result.trellis.now.m ≡ m = ap (λ (t : Inner). t.m) c.new.ensures.trellis in
    let block : length c.lay.new.out ≡ m = omega arith in
    let told : ℕ → ℤ = λ b. told_of (get_or c.stage_reliabilities.new.out b None) (get_or (take (k * m + m - k * m) (drop (k * m) t.priors.now)) b (pos 0)) in
    record {
      front = block_more (pos 0) (inner_extrinsic m t.n t.rows.now t.priors.now) told
          k m _ c.loop-k.out c.lay.new.out (omega arith) block c.loop-k.invariant.front
          (λ b l. ap (λ xs. get_or xs b (pos 0)) c.lay.ensures ∙ get_or-map-range_with_len told 0 _ b b (pos 0) (omega arith) (omega arith))
          (λ b l. placed m t.n t.rows.now t.priors.now _ k c.new.result.number b c.stage_reliabilities.new.out _ l means c.new.ensures.number (c.stage_reliabilities.ensures.told b (omega arith)) (part_entry (pos 0) t.priors.now (k * m) m b l));
      tail = drop-put_mid (k * m) _ c.loop-k.out c.lay.new.out (t.n * m) (omega arith) (omega arith) (omega arith) ∙ c.loop-k.invariant.tail;
    }

pub returns : goal.returns
unfolding inner_extrinsics
returns c =
    let t = c.args.t.now in
    let e : c.loop-k.k ≡ t.n = omega arith in
    let many = t.n * t.m in
    record {
      front = fill_by_all (inner_extrinsic t.m t.n t.rows.now t.priors.now) (take many c.loop-k.out) many (pos 0) (omega (arith, length-take many c.loop-k.out))
          (λ j h. get_or-take many c.loop-k.out j (pos 0) h ∙ c.loop-k.invariant.front j (rw e h));
      tail = c.loop-k.invariant.tail;
      table = c.work.ensures.whole;
    }
