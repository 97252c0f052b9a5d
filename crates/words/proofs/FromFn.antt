-- What `array::from_fn` makes with a closure that its calls leave as it is: the closure's value at each index, by the calls in order.
use Rattle.std.proofs.Common.{◌≡◌, ℕ, zero, suc, ◌+◌, ◌<◌, ◌≤◌, List, map, get_or, sym, refl, ap, ◌∙◌, subst, inl, inr, arith}
use Rattle.std.proofs.lemmas.Bool.{cases_lt}
use Rattle.std.proofs.lemmas.List.FromFn.{fill_by_all}
use Rattle.std.specs.Array.{IsFromFnResult, IsFromFnResultFrom}
use Rattle.std.specs.Fn.{Called}
use Rattle.std.specs.List.{range_with_len}
use denote.Param.Members.{Mut}

module _ {F : Type 0} (g : Mut F (ℕ × Unit {0}) ℕ) (f : F) (h : ℕ → ℕ) (n : ℕ) (calls : (i y : ℕ) (q : F) → i < n → Called g f (i, tt) y q → (y ≡ h i) × (q ≡ f)) where
  made : (ys : List ℕ) (i m : ℕ) (p : F) → p ≡ f → i + m ≡ n → IsFromFnResultFrom g p ys i m → (k : ℕ) → i ≤ k → k < n → get_or ys k 0 ≡ h k
  made ys i zero p e l r k a b = absurd (omega arith)
  made ys i (suc m) p e l r k a b =
      let c = calls i r.1 r.0 (omega arith) (subst (λ (p : F). Called g p (i, tt) r.1 r.0) e r.3) in
      elim (cases_lt i k) [
        | inl x ↦ made ys (i + 1) m r.0 c.1 (omega arith) r.4 k (omega arith) b
        | inr x ↦
            let s : i ≡ k = omega arith in
            ap (λ (j : ℕ). get_or ys j 0) (sym s) ∙ r.2.1 0 ∙ c.0 ∙ ap h s
      ]

  pub from_each : (ys : List ℕ) → IsFromFnResult g f ys n → (k : ℕ) → k < n → get_or ys k 0 ≡ h k
  from_each ys r k b = made ys 0 n f refl (omega arith) r.each k (omega arith) b

  pub from_fn_is : (ys : List ℕ) → IsFromFnResult g f ys n → ys ≡ map h (range_with_len 0 n)
  from_fn_is ys r = fill_by_all h ys n 0 r.long (from_each ys r)
