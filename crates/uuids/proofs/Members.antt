-- The table knows each member and nothing else: from where a member's look-up starts no slot is free up to its own, and that stays so when another takes a free slot.
use Prim.Native.Nat.{ℕ, zero, suc, ◌+◌, ◌*◌, ◌≤◌, ◌<◌}
use mathlib.Core.Path.{◌≡◌, refl, sym, ap, ◌∙◌, subst}
use mathlib.Core.Logic.{⊎_elim}
use mathlib.Core.List.{List, []}
use native.Mathlib.Nat.{eq-or-lt_of_le}
use native.Mathlib.Omega.{arith}
use lib.ListN.{length, get_or, set, replicate, length-set, length-replicate}
use lib.Seq.{get_or-set_same, get_or-set_other}
use Rattle.words.proofs.Either.{lt_or_ge, eq_or_ne}
use Rattle.uuids.specs.Table.{id_at, start_of, place_of, Taken, Holds, Other, Slots, Looks}
use Rattle.uuids.specs.Batches.{NoMembers}
use Rattle.uuids.specs.declared.table.Look.TheVariants.{Known, Free, Full}

-- a look-up has come to slot i: all before it, from the start on, are another's
pub record Seen (s : List ℕ) (base : ℕ) (slots u : List ℕ) (i : ℕ) : Type 0 where
  pub from : start_of u ≤ i
  pub others : (j : ℕ) → start_of u ≤ j → j < i → Other s base slots u j

pub seen_free : (s : List ℕ) (base : ℕ) (slots u : List ℕ) (i : ℕ) → Seen s base slots u i → i < 26624 → get_or slots i 0 ≡ 0 → Looks s base slots u (Free i)
seen_free s base slots u i x h z = (x.from, h, z, x.others)

-- slot i is u's, and from the start of its look-up on none before it is free
pub record Own (s : List ℕ) (base : ℕ) (slots u : List ℕ) : Type 0 where
  pub i : ℕ
  pub from : start_of u ≤ i
  pub near : i < 26624
  pub holds : Holds s base slots u i
  pub before : (j : ℕ) → start_of u ≤ j → j < i → Taken slots j

-- the first m of us are the members
pub record Table (s : List ℕ) (base : ℕ) (slots : List ℕ) (us : List (List ℕ)) (m : ℕ) : Type 0 where
  pub fits : Slots s base slots
  pub each : (k : ℕ) → k < m → Own s base slots (get_or us k [])
  pub only : (i : ℕ) → Taken slots i → (k : ℕ) × (k < m) × (id_at s (place_of base (get_or slots i 0)) ≡ get_or us k [])

pub table_start : (s : List ℕ) (base : ℕ) (slots : List ℕ) (us : List (List ℕ)) → NoMembers slots → Table s base slots us 0
table_start s base slots us z = record {
  fits = record { long = z.long; inside = λ i t. absurd (omega (arith, z.zero i)) };
  each = λ k h. absurd (omega arith);
  only = λ i t. absurd (omega (arith, z.zero i));
}

module _ (s : List ℕ) (base : ℕ) (slots : List ℕ) (us : List (List ℕ)) (m : ℕ) (x : Table s base slots us m) (u : List ℕ) where
  pub is_known : Looks s base slots u Known → (k : ℕ) × (k < m) × (get_or us k [] ≡ u)
  is_known l = let o = x.only l.0 l.1.0 in (o.0, o.1, sym o.2 ∙ l.1.1)

  -- what another has is not u's
  not_other : (i : ℕ) → Holds s base slots u i → Other s base slots u i → ⊥
  not_other i h o = o.1 h.1

  own : (k : ℕ) → k < m → get_or us k [] ≡ u → Own s base slots u
  own k h e = subst (Own s base slots) e (x.each k h)

  pub not_free : (i : ℕ) → Looks s base slots u (Free i) → (k : ℕ) → k < m → get_or us k [] ≡ u → ⊥
  not_free i l k h e =
      let o = own k h e in
      ⊎_elim
      (λ a. not_other o.i o.holds (l.3 o.i o.from a))
      (λ a. ⊎_elim
      (λ b. omega (arith, ap (λ (j : ℕ). get_or slots j 0) b, o.holds.0, l.2))
      (λ b. omega (arith, o.before i l.0 b, l.2))
      (eq-or-lt_of_le a))
      (lt_or_ge o.i i)

  pub not_full : Looks s base slots u Full → (k : ℕ) → k < m → get_or us k [] ≡ u → ⊥
  not_full l k h e = let o = own k h e in not_other o.i o.holds (l o.i o.from o.near)

  -- one member more, in the slot that its look-up found free
  module _ (i : ℕ) (l : Looks s base slots u (Free i)) (e : get_or us m [] ≡ u) (v : ℕ) (t : 0 < v) (p : id_at s (place_of base v) ≡ u) (w : base + 16 * v ≤ length s) where
    abbrev new : List ℕ
    new = set slots i v

    here : get_or new i 0 ≡ v
    here = get_or-set_same slots i v 0 (omega (arith, x.fits.long, l.1))

    there : (j : ℕ) → (j ≡ i → ⊥) → get_or new j 0 ≡ get_or slots j 0
    there j n = get_or-set_other slots i j v 0 n

    -- what was taken is not the slot that was free
    other : (j : ℕ) → Taken slots j → j ≡ i → ⊥
    other j a z = omega (arith, ap (λ (k : ℕ). get_or slots k 0) z, l.2)

    still : (j : ℕ) → Taken slots j → Taken new j
    still j a = rw (there j (other j a)) a

    kept : (y : List ℕ) → Own s base slots y → Own s base new y
    kept y o = record {
      i = o.i;
      from = o.from;
      near = o.near;
      holds = (still o.i o.holds.0, ap (λ (k : ℕ). id_at s (place_of base k)) (there o.i (other o.i o.holds.0)) ∙ o.holds.1);
      before = λ j h g. still j (o.before j h g);
    }

    added : Own s base new u
    added = record {
      i = i;
      from = l.0;
      near = l.1;
      holds = (rw here t, ap (λ (k : ℕ). id_at s (place_of base k)) here ∙ p);
      before = λ j h g. still j (l.3 j h g).0;
    }

    pub table_more : Table s base new us (m + 1)
    table_more = record {
      fits = record {
        long = length-set slots i v ∙ x.fits.long;
        inside = λ j a. ⊎_elim
            (λ z. subst (λ (k : ℕ). base + 16 * k ≤ length s) (sym (ap (λ (k : ℕ). get_or new k 0) z ∙ here)) w)
            (λ n. rw (there j n) (x.fits.inside j (subst (λ (k : ℕ). 0 < k) (there j n) a)))
            (eq_or_ne j i);
      };
      each = λ k h.
          let b : k ≤ m = omega arith in
          ⊎_elim (λ z. subst (Own s base new) (sym (ap (λ (j : ℕ). get_or us j []) z ∙ e)) added) (λ z. kept (get_or us k []) (x.each k z)) (eq-or-lt_of_le b);
      only = λ j a. ⊎_elim
          (λ z. (m, omega arith, ap (λ (k : ℕ). id_at s (place_of base (get_or new k 0))) z ∙ ap (λ (k : ℕ). id_at s (place_of base k)) here ∙ p ∙ sym e))
          (λ n.
          let o = x.only j (subst (λ (k : ℕ). 0 < k) (there j n) a) in
          (o.0, omega (arith, o.1), ap (λ (k : ℕ). id_at s (place_of base k)) (there j n) ∙ o.2))
          (eq_or_ne j i);
    }

-- zeros are no members
pub all_zero : NoMembers (replicate 26624 0)
all_zero = record { long = length-replicate {A = ℕ} 26624 0; zero = λ i. by 26624 i }
  where
    by : (n i : ℕ) → ◌≡◌ {A = ℕ} (get_or (replicate n 0) i 0) 0
    by zero i = refl
    by (suc n) zero = refl
    by (suc n) (suc i) = by n i
