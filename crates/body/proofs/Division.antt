-- A body divides into fields in one way only, and `fields_of` finds it: going on, each field's own bytes say where the next one starts; going back, the fields' bytes
-- joined are the bytes that were read.
use Prim.Native.Nat.{ℕ, zero, suc, ◌+◌, ◌-◌, ◌*◌, ◌^◌, ◌<◌, ◌≤◌}
use mathlib.Core.Path.{◌≡◌, refl, sym, ap, ap₂, ◌∙◌}
use mathlib.Core.Bool.{Bool, true, false, cond}
use mathlib.Core.List.{List, [], ◌∷◌, ◌++◌, append_assoc, append-nil}
use native.Mathlib.Nat.{pow-le-pow_right, add-zero, zero-add}
use native.Mathlib.Omega.{arith}
use lib.Dec.{lit<}
use lib.ListN.{length, take, drop, length-append, length-take, length-drop, take-append-drop}
use lib.Seq.{drop-cons, drop-drop, drop-length, take_at}
use borrow.Author.Tests.{leb-true, le-leb, lt-leb, eqb-true, eq-eqb}
use Rattle.words.specs.Each.{Each}
use Rattle.words.specs.Numbers.{bytes_low, Bytes}
use Rattle.words.proofs.ByteLaws.{bytes_take, bytes_drop, byte_at}
use Rattle.words.proofs.NumberLaws.{bytes_number, number_fits}
use Rattle.fields.specs.Stored.{Stored, bytes_of, room_of, fill_of}
use Rattle.fields.specs.Step.{len_at, kind_at, data_at}
use Rattle.fields.proofs.Outcomes.{room_fill}
use Rattle.fields.proofs.Back.{bytes_long, len_back, kind_back, data_back, fill_back}
use Rattle.body.specs.Division.{Whole, joined, Divides}
use Rattle.body.specs.Decision.{stored_at, fits, divided, fields_from, fields_of, exact_from}

no_fit : (s : List ℕ) (p : ℕ) → length s ≤ p → fits s p ≡ false
no_fit s p h = lt-leb (p + room_of (len_at s p)) (length s) (omega arith)

more_room : (s : List ℕ) (p : ℕ) → fits s p ≡ true → (p + room_of (len_at s p) ≤ length s) × (16 ≤ room_of (len_at s p))
more_room s p h = (leb-true (p + room_of (len_at s p)) (length s) h, omega arith)

-- the fields do not depend on the bound, where that is large enough
nothing : (m : ℕ) (s : List ℕ) (p : ℕ) → length s ≤ p → divided m s p ≡ []
unfolding divided
nothing zero s p h = refl
nothing (suc m) s p h = rw (no_fit s p h)

enough : (n m : ℕ) (s : List ℕ) (p : ℕ) → length s - p ≤ n → length s - p ≤ m → divided n s p ≡ divided m s p
unfolding divided
enough zero m s p h g = sym (nothing m s p (omega arith))
enough (suc n) zero s p h g = nothing (suc n) s p (omega arith)
enough (suc n) (suc m) s p h g =
    by (fits s p) refl (λ e. enough n m s (p + room_of (len_at s p)) (omega (arith, more_room s p e)) (omega (arith, more_room s p e)))
  where
    by : (b : Bool) → fits s p ≡ b → (fits s p ≡ true → divided n s (p + room_of (len_at s p)) ≡ divided m s (p + room_of (len_at s p)))
        → cond b (stored_at s p ∷ divided n s (p + room_of (len_at s p))) [] ≡ cond b (stored_at s p ∷ divided m s (p + room_of (len_at s p))) []
    by true e k = ap (◌∷◌ (stored_at s p)) (k e)
    by false e k = refl

pub from_fits : (s : List ℕ) (p : ℕ) → fits s p ≡ true → fields_from s p ≡ stored_at s p ∷ fields_from s (p + room_of (len_at s p))
unfolding divided
from_fits s p h =
    let r = more_room s p h in
    enough (length s) (suc (length s)) s p (omega arith) (omega arith)
    ∙ rw h

pub from_none : (s : List ℕ) (p : ℕ) → fits s p ≡ false → fields_from s p ≡ []
unfolding divided
from_none s p h = enough (length s) (suc (length s)) s p (omega arith) (omega arith) ∙ rw h

-- the field that stands at p, where its blocks are within s
module _ (s : List ℕ) (p : ℕ) (h : fits s p ≡ true) where
  pub data_long : length (data_at s p) ≡ len_at s p
  data_long = let r = more_room s p h in simp (length-take, length-drop) (omega arith)

  fill_long : length (stored_at s p).fill ≡ fill_of (len_at s p)
  fill_long = let r = more_room s p h in simp (length-take, length-drop) (omega arith)

  pub stored_long : length (bytes_of (stored_at s p)) ≡ room_of (len_at s p)
  stored_long = bytes_long (stored_at s p) ∙ rw (data_long, fill_long) (room_fill (len_at s p))

  module _ (b : Bytes s) where
    four : bytes_low 4 (len_at s p) ≡ take 4 (drop p s)
    four =
        let r = more_room s p h in
        let l : length (take 4 (drop p s)) ≡ 4 = simp (length-take, length-drop) (omega arith) in
        ap (λ (n : ℕ). bytes_low n (len_at s p)) (sym l) ∙ bytes_number (bytes_take 4 (bytes_drop p b))

    cut : (k q r : ℕ) → q + k ≡ r → drop q s ≡ take k (drop q s) ++ drop r s
    cut k q r e = sym (take-append-drop k (drop q s)) ∙ ap (λ (l : List ℕ). take k (drop q s) ++ l) (drop-drop k q s ∙ ap (λ (m : ℕ). drop m s) e)

    -- its bytes, and what follows them
    pub stored_bytes : drop p s ≡ bytes_of (stored_at s p) ++ drop (p + room_of (len_at s p)) s
    stored_bytes =
        let r = more_room s p h in
        let n = len_at s p in
        let z₁ : suc (p + 4) ≡ p + 5 = omega arith in
        let z₂ : p + 5 + n ≡ p + (5 + n) = omega arith in
        let z₃ : p + (5 + n) + fill_of n ≡ p + room_of n = omega arith in
        let e₁ : drop 4 (drop p s) ≡ kind_at s p ∷ drop (p + 5) s = drop-drop 4 p s ∙ drop-cons s (p + 4) 0 (omega arith) ∙ ap (λ (m : ℕ). kind_at s p ∷ drop m s) z₁ in
        let e₂ : drop (p + 5) s ≡ data_at s p ++ drop (p + (5 + n)) s = cut n (p + 5) (p + (5 + n)) z₂ in
        let e₃ : drop (p + (5 + n)) s ≡ (stored_at s p).fill ++ drop (p + room_of n) s = cut (fill_of n) (p + (5 + n)) (p + room_of n) z₃ in
        let z = drop (p + room_of n) s in
        let e₄ : take 4 (drop p s) ≡ bytes_low 4 (length (data_at s p)) = sym four ∙ ap (bytes_low 4) (sym data_long) in
        sym (take-append-drop 4 (drop p s))
        ∙ ap₂ ◌++◌ e₄ (e₁ ∙ ap (◌∷◌ (kind_at s p)) (e₂ ∙ ap (λ (l : List ℕ). data_at s p ++ l) e₃ ∙ sym (append_assoc (data_at s p) (stored_at s p).fill z)))
        ∙ sym (append_assoc (bytes_low 4 (length (data_at s p))) (kind_at s p ∷ (data_at s p ++ (stored_at s p).fill)) z)

    stored_whole : Whole (stored_at s p)
    stored_whole =
        let l : length (take 4 (drop p s)) ≤ 4 = simp length-take (omega arith) in
        record {
          kind = byte_at b (p + 4);
          content = bytes_take (len_at s p) (bytes_drop (p + 5) b);
          short = rw data_long (small (length (take 4 (drop p s))) l (number_fits (bytes_take 4 (bytes_drop p b))));
          fill = bytes_take (fill_of (len_at s p)) (bytes_drop (p + (5 + len_at s p)) b);
          blocks = stored_long ∙ ap room_of (sym data_long);
        }
      where
        small : (k : ℕ) → k ≤ 4 → len_at s p < 2 ^ (8 * k) → len_at s p < 2 ^ 32
        small k g x = omega (arith, pow-le-pow_right {n = 2} (lit< tt) {i = 8 * k} {j = 32} (omega arith))

-- the fields from p on are the bytes from p on, as far as they go
pub joined_bytes : (n : ℕ) (s : List ℕ) (p : ℕ) → Bytes s → drop p s ≡ joined (divided n s p) ++ drop (p + length (joined (divided n s p))) s
unfolding divided
joined_bytes zero s p b = ap (λ (m : ℕ). drop m s) (sym (add-zero p))
joined_bytes (suc n) s p b = by (fits s p) refl (joined_bytes n s (p + room_of (len_at s p)) b)
  where
    by : (t : Bool) → fits s p ≡ t
        → drop (p + room_of (len_at s p)) s
        ≡ joined (divided n s (p + room_of (len_at s p))) ++ drop (p + room_of (len_at s p) + length (joined (divided n s (p + room_of (len_at s p))))) s
        → drop p s
        ≡ joined (cond t (stored_at s p ∷ divided n s (p + room_of (len_at s p))) [])
        ++ drop (p + length (joined (cond t (stored_at s p ∷ divided n s (p + room_of (len_at s p))) []))) s
    by false e ih = ap (λ (m : ℕ). drop m s) (sym (add-zero p))
    by true e ih =
        let fs = divided n s (p + room_of (len_at s p)) in
        let z : p + room_of (len_at s p) + length (joined fs) ≡ p + length (bytes_of (stored_at s p) ++ joined fs) = rw (length-append (bytes_of (stored_at s p)) (joined fs), stored_long s p e) (omega arith) in
        stored_bytes s p e b
        ∙ ap (λ (l : List ℕ). bytes_of (stored_at s p) ++ l) (ih ∙ ap (λ (m : ℕ). joined fs ++ drop m s) z)
        ∙ sym (append_assoc (bytes_of (stored_at s p)) (joined fs) (drop (p + length (bytes_of (stored_at s p) ++ joined fs)) s))

all_whole : (n : ℕ) (s : List ℕ) (p : ℕ) → Bytes s → Each Whole (divided n s p)
unfolding divided
all_whole zero s p b = tt
all_whole (suc n) s p b = by (fits s p) refl (all_whole n s (p + room_of (len_at s p)) b)
  where
    by : (t : Bool) → fits s p ≡ t → Each Whole (divided n s (p + room_of (len_at s p))) → Each Whole (cond t (stored_at s p ∷ divided n s (p + room_of (len_at s p))) [])
    by true e ih = (stored_whole s p e b, ih)
    by false e ih = tt

-- where the fields reach the end, they divide the body
pub divides : (s : List ℕ) → Bytes s → exact_from s 0 ≡ true → Divides s (fields_of s)
divides s b h =
    let e : 0 + length (joined (fields_of s)) ≡ length s = eqb-true (0 + length (joined (fields_of s))) (length s) h in
    record {
      whole = all_whole (length s) s 0 b;
      parts = joined_bytes (length s) s 0 b ∙ ap (λ (m : ℕ). joined (fields_of s) ++ drop m s) e ∙ rw (drop-length s) (append-nil (joined (fields_of s)));
    }

-- a whole field's fill
pub whole_fill : (f : Stored) → Whole f → length f.fill ≡ fill_of (length f.content)
whole_fill f w = omega (arith, bytes_long f, w.blocks)

-- a field that is stored after a, before z, is the one that is read there
module _ (a : List ℕ) (f : Stored) (z : List ℕ) (w : Whole f) where
  pub fits_back : fits (a ++ (bytes_of f ++ z)) (length a) ≡ true
  fits_back =
      le-leb (length a + room_of (len_at (a ++ (bytes_of f ++ z)) (length a))) (length (a ++ (bytes_of f ++ z)))
      (rw (len_back a f z w.short, ← w.blocks, length-append a (bytes_of f ++ z), length-append (bytes_of f) z) (omega arith))

  pub stored_back : stored_at (a ++ (bytes_of f ++ z)) (length a) ≡ f
  stored_back = rw (data_back a f z w.short, kind_back a f z, len_back a f z w.short, fill_back a f z, ← whole_fill f w, take_at f.fill z (length f.fill) refl)

found : (n : ℕ) (a : List ℕ) (fs : List Stored) (s : List ℕ) → Each Whole fs → s ≡ a ++ joined fs → length s - length a ≤ n → divided n s (length a) ≡ fs
unfolding divided
found n a [] s w e h = nothing n s (length a) (omega (arith, simp length-append at (ap length e)))
found zero a (f ∷ fs) s w e h = absurd (omega (arith, simp length-append at (ap length e)))
found (suc n) a (f ∷ fs) s w e h =
    let z = joined fs in
    let fit : fits s (length a) ≡ true = rw e (fits_back a f z w.0) in
    let here : stored_at s (length a) ≡ f = rw e (stored_back a f z w.0) in
    let len : len_at s (length a) ≡ length f.content = rw e (len_back a f z w.0.short) in
    let far : length a + room_of (len_at s (length a)) ≡ length (a ++ bytes_of f) = rw (len, length-append a (bytes_of f), w.0.blocks) in
    let rest = found n (a ++ bytes_of f) fs s w.1 (e ∙ sym (append_assoc a (bytes_of f) z)) (omega (arith, ap length e)) in
    rw fit (ap₂ ◌∷◌ here (ap (divided n s) far ∙ rest))

-- a body divides into one list of fields only: those that are read
pub division : (s : List ℕ) (fs : List Stored) → Divides s fs → fields_of s ≡ fs
division s fs d = found (length s) [] fs s d.whole d.parts (omega arith)

pub unique : (s : List ℕ) (fs gs : List Stored) → Divides s fs → Divides s gs → fs ≡ gs
unique s fs gs d e = sym (division s fs d) ∙ division s gs e

pub exact : (s : List ℕ) (fs : List Stored) → Divides s fs → exact_from s 0 ≡ true
exact s fs d = eq-eqb (0 + length (joined (fields_of s))) (length s) (zero-add (length (joined (fields_of s))) ∙ ap (λ (l : List Stored). length (joined l)) (division s fs d) ∙ ap length (sym d.parts))
