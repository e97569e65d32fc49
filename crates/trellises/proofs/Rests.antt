-- What stands behind what is laid.
use Rattle.std.proofs.Common.{◌≡◌, ℕ, ◌+◌, ◌-◌, ◌≤◌, List, ◌++◌, length, get_or, sym, ap, ◌∙◌, arith}
use Rattle.std.proofs.lemmas.List.{get_or-append_right}

-- two parts joined, of which the second is as it was from `size` on
pub behind_parts : (zero zero' one one' old : List ℕ) (size p : ℕ) → length zero ≡ size → length zero' ≡ size → old ≡ zero ++ one → ((v : ℕ) → size ≤ v → get_or one' v 0 ≡ get_or one v 0)
    → size + size ≤ p → get_or (zero' ++ one') p 0 ≡ get_or old p 0
behind_parts zero zero' one one' old size p l l' is same h =
    get_or-append_right zero' one' size p 0 l' (omega arith) ∙ same (p - size) (omega arith) ∙ sym (get_or-append_right zero one size p 0 l (omega arith)) ∙ sym (ap (λ xs. get_or xs p 0) is)
