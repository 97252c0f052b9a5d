-- Batch after batch: none below the best answer so far is the same as an earlier one of those that were members. Once all were, or the answer is reached, it is the first of all.
use Prim.Native.Nat.{ℕ, ◌+◌, ◌-◌, ◌≤◌, ◌<◌}
use mathlib.Core.Path.{◌≡◌, sym, ap, ◌∙◌, subst}
use mathlib.Core.Logic.{⊎_elim}
use mathlib.Core.List.{List, []}
use native.Mathlib.Omega.{arith}
use lib.ListN.{length, get_or, drop, length-drop}
use lib.Seq.{get_or-drop, drop-drop}
use Rattle.std.specs.Prelude.{Option, Some, None, IfSome}
use Rattle.std.specs.Option.{unwrap_or, option_or}
use Rattle.words.proofs.Either.{lt_or_ge}
use Rattle.uuids.specs.Uuids.{uuids_from, Again, Repeats}
use Rattle.uuids.specs.Batches.{NextAt, Best, on_from, Passing}
use Rattle.uuids.specs.declared.batch.Went.{Went}
use Rattle.uuids.proofs.Steps.{few}

-- of us, the first h were members, and b is the best answer so far; none has a number from n on
pub record Standing (us : List (List ℕ)) (n h : ℕ) (b : Option ℕ) : Type 0 where
  pub none : (i j : ℕ) → i < unwrap_or b n → i < length us → j < i → j < h → get_or us j [] ≡ get_or us i [] → ⊥
  pub some : IfSome b (λ k. (k < length us) × Again us k)

-- the members of the next batch too
module _ (us vs : List (List ℕ)) (n h m : ℕ) (b : Option ℕ) (x : Standing us n h b) (e : vs ≡ drop h us) (g : h ≤ length us) where
  at : (i : ℕ) → get_or vs i [] ≡ get_or us (h + i) []
  at i = ap (λ (l : List (List ℕ)). get_or l i []) e ∙ get_or-drop h us i []

  long : length vs ≡ length us - h
  long = ap length e ∙ length-drop h us

  -- below a number that is no greater than the best so far
  below : (t : ℕ) → t ≤ unwrap_or b n → ((i j : ℕ) → h + i < t → i < length vs → j < i → j < m → get_or vs j [] ≡ get_or vs i [] → ⊥)
      → (i j : ℕ) → i < t → i < length us → j < i → j < h + m → get_or us j [] ≡ get_or us i [] → ⊥
  below t o y i j p q l k z = ⊎_elim
      (λ a. x.none i j (omega arith) q l a z)
      (λ a.
      let i' : h + (i - h) ≡ i = omega arith in
      let j' : h + (j - h) ≡ j = omega arith in
      y (i - h) (j - h) (omega arith) (omega (arith, long)) (omega arith) (omega arith)
      (at (j - h) ∙ ap (λ (k : ℕ). get_or us k []) j' ∙ z ∙ sym (at (i - h) ∙ ap (λ (k : ℕ). get_or us k []) i')))
      (lt_or_ge j h)

  further : (c : Option ℕ) → Best vs m h (unwrap_or b n) c → Standing us n (h + m) (option_or c b)
  further None y = record { none = below (unwrap_or b n) (omega arith) y.none; some = x.some }
  further (Some k) y = record {
    none = below k (omega (arith, y.some.0)) y.none;
    some =
        let w = y.some in
        subst (λ (k : ℕ). (k < length us) × Again us k) (sym w.2)
        (omega (arith, w.3, long), (h + w.4.0, omega (arith, w.4.1), sym (at w.4.0) ∙ w.4.2 ∙ at w.1));
  }

-- nothing is left to be tried
told : (us : List (List ℕ)) (n : ℕ) (b : Option ℕ) → length us ≤ n
    → ((i j : ℕ) → i < unwrap_or b n → i < length us → j < i → get_or us j [] ≡ get_or us i [] → ⊥) → IfSome b (λ k. (k < length us) × Again us k) → Repeats us b
told us n None l f g = λ i j p q z. f i j (omega arith) p q z
told us n (Some b) l f g = (g.0, g.1, λ i j p q z. f i j p (omega (arith, g.0)) q z)

-- from this place on: the batches before took h in, and the next begins at `at`
pub record Batches (s : List ℕ) (from at h : ℕ) (b : Option ℕ) : Type 0 where
  pub standing : Standing (uuids_from s from) (length s) h b
  pub rest : uuids_from s at ≡ drop h (uuids_from s from)
  pub enough : h ≤ length (uuids_from s from)

module _ (s : List ℕ) (from at h : ℕ) (b : Option ℕ) (x : Batches s from at h b) where
  pub batches_end : unwrap_or b (length s) ≤ h → Repeats (uuids_from s from) b
  batches_end g = told (uuids_from s from) (length s) b (few s from) (λ i j p q l z. x.standing.none i j p q l (omega arith) z) x.standing.some

  pub batches_over : uuids_from s at ≡ [] → Repeats (uuids_from s from) b
  batches_over e =
      told (uuids_from s from) (length s) b (few s from)
      (λ i j p q l z. x.standing.none i j p q l (omega (arith, simp length-drop at (ap length (sym x.rest ∙ e)))) z) x.standing.some

  -- a batch as far as the best answer so far
  module _ (p : ℕ) (f : NextAt s at p) (n : ℕ) (l : n ≡ unwrap_or b (length s)) (w : Went) (y : Passing s p h n w) where
    same : on_from s p ≡ drop h (uuids_from s from)
    same = sym f.next ∙ x.rest

    pub batches_next : Batches s from w.next (h + w.members) (option_or w.hit b)
    batches_next = record {
      standing = further (uuids_from s from) (on_from s p) (length s) h w.members b x.standing same x.enough w.hit (subst (λ (n : ℕ). Best (on_from s p) w.members h n w.hit) l y.best);
      rest = y.rest ∙ ap (drop w.members) same ∙ drop-drop w.members h (uuids_from s from);
      enough = omega (arith, y.enough, ap length same, length-drop h (uuids_from s from), x.enough);
    }

    pub batches_room : h + w.members ≤ length s
    batches_room = omega (arith, batches_next.enough, few s from)
