-- What the tests of a record say: a fine one is whole, its time has four bytes, a cut one goes in nowhere, and the code's kinds are the known ones: by the tests.
use Prim.Native.Nat.{ℕ, ◌*◌, ◌^◌, ◌<◌, ◌≤◌}
use mathlib.Core.Path.{◌≡◌, refl, subst}
use mathlib.Core.Bool.{Bool, true, false, cond}
use mathlib.Core.List.{List}
use native.Mathlib.Omega.{arith}
use borrow.Author.Tests.{eq-eqb, ne_eqb, eqb-true}
use lib.Dec.{eqb}
use lib.ListN.{length, get_or, take, drop, length-take, length-drop}
use lib.Seq.{length-take-le, take_all}
use Rattle.words.specs.Numbers.{number_low, Bytes}
use Rattle.words.specs.Slices.{same, zeros}
use Rattle.words.proofs.ByteLaws.{bytes_take, bytes_drop}
use Rattle.words.proofs.NumberLaws.{number_fits}
use Rattle.replay.specs.Trace.{record_at, event_of, known, fine}
use Rattle.std.specs.Prelude.{None, Some}
use Rattle.std.specs.Option.{is_some}
use Rattle.replay.specs.declared.entry.Kind.TheVariants.{Edit, Cancel, Reissue}
use Rattle.replay.specs.State.{is_mark, kind_of, mark_of}
use Rattle.replay.specs.Replay.{goes_in}
use Rattle.replay.proofs.Tidy.{event_mark}

-- a fine record is whole
pub fine_whole : (r : List ℕ) → fine r ≡ true → length r ≡ 32
unfolding fine
fine_whole r h = by (eqb (length r) 32) _ refl h
  where
    by : (b x : Bool) → eqb (length r) 32 ≡ b → cond b x false ≡ true → length r ≡ 32
    by true x e h = eqb-true (length r) 32 e
    by false x e h = absurd (cc)

pub id_long : (r : List ℕ) → fine r ≡ true → length (take 16 r) ≡ 16
id_long r f = length-take-le 16 r (omega (arith, fine_whole r f))

pub record_bytes : (t : List ℕ) → Bytes t → (n : ℕ) → Bytes (record_at t n)
record_bytes t b n = bytes_take 32 (bytes_drop (32 * n) b)

-- a cut record goes in nowhere
pub cut_not_in : (s r : List ℕ) → length r < 32 → goes_in s r ≡ false
unfolding fine
cut_not_in s r h = rw (ne_eqb (length r) 32 (λ e. omega arith))

-- a kind is known where the code has one for it
pub kind_known : (k : ℕ) → is_some (kind_of k) ≡ known k
kind_known k = by (eqb k 1) (eqb k 2) (eqb k 3)
  where
    by : (a b c : Bool) → is_some (cond a (Some Edit) (cond b (Some Cancel) (cond c (Some Reissue) None))) ≡ cond a true (cond b true c)
    by true b c = refl
    by false true c = refl
    by false false true = refl
    by false false false = refl

-- the tests of a whole one
pub fine_tests : (r : List ℕ) → length r ≡ 32 → fine r ≡ cond (known (get_or r 20 0)) (same (take 11 (drop 21 r)) (zeros 11)) false
unfolding fine
fine_tests r h =
    let l : length (drop 21 r) ≤ 11 = simp length-drop (omega arith) in
    rw (eq-eqb (length r) 32 h, take_all 11 (drop 21 r) l)

time_small : (r : List ℕ) → Bytes r → length r ≡ 32 → (event_of r).time < 2 ^ 32
time_small r b h =
    let l : length (take 4 (drop 16 r)) ≡ 4 = simp (length-take, length-drop) (omega arith) in
    let n = number_fits (bytes_take 4 (bytes_drop 16 b)) in
    subst (λ (k : ℕ). number_low (take 4 (drop 16 r)) < 2 ^ (8 * k)) l n

pub brings : (r : List ℕ) → Bytes r → fine r ≡ true → (k : ℕ) → is_mark (mark_of k (event_of r)) ≡ true
brings r b f k = event_mark k (event_of r) (time_small r b (fine_whole r f))
