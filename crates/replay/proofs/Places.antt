-- The look-up entry by entry is the definition's, what it finds is the place, and an entry that is written is the one put there: by the tests on the way.
use Prim.Native.Nat.{ℕ, suc, ◌+◌, ◌*◌, ◌-◌, ◌/◌, ◌%◌, ◌<◌, ◌≤◌}
use mathlib.Core.Path.{◌≡◌, refl, sym, ap, ◌∙◌}
use mathlib.Core.Bool.{Bool, true, false, cond}
use mathlib.Core.List.{List}
use native.Mathlib.Omega.{arith}
use borrow.Author.Tests.{lt-ltb, ltb-true}
use lib.Dec.{ltb}
use Rattle.std.specs.Prelude.{None, Some}
use borrow.Rule.Slice.PartMut.{put_mid}
use lib.Seq.{drop-drop}
use Rattle.replay.specs.State.{put, spread_of, slot, stops, seek, place_of, found_in}

pub spread_small : (u : List ℕ) → spread_of u < 4294967296
unfolding spread_of
spread_small u = omega arith

-- what is left of the look-up after d entries
seek_one : (s u : List ℕ) (n d : ℕ) → n ≡ suc (4096 - (d + 1)) → seek s u n d ≡ cond (stops s u (slot u d)) (slot u d) (seek s u (4096 - (d + 1)) (d + 1))
unfolding seek
seek_one s u n d h = rw h

pub record Looks (s u : List ℕ) (d : ℕ) : Type 0 where
  pub far : d ≤ 4096
  pub rest : seek s u (4096 - d) d ≡ place_of s u

pub looks_start : (s u : List ℕ) → Looks s u 0
looks_start s u = record { far = omega arith; rest = refl }

module _ (s u : List ℕ) (d h : ℕ) (x : Bool) (l : Looks s u d) (m : d < 4096) (k : h ≡ spread_of u) (e : x ≡ stops s u ((h / 1048576 + d * (2 * (h / 16384 % 64) + 1)) % 4096)) where
  visited : (h / 1048576 + d * (2 * (h / 16384 % 64) + 1)) % 4096 ≡ slot u d
  visited = ap (λ (n : ℕ). (n / 1048576 + d * (2 * (n / 16384 % 64) + 1)) % 4096) k

  tested : x ≡ stops s u (slot u d)
  tested = e ∙ ap (stops s u) visited

  next : cond x (slot u d) (seek s u (4096 - (d + 1)) (d + 1)) ≡ place_of s u
  next = ap (λ (b : Bool). cond b (slot u d) (seek s u (4096 - (d + 1)) (d + 1))) tested ∙ sym (seek_one s u (4096 - d) d (omega arith)) ∙ l.rest

  pub looks_found : x ≡ true → Some ((h / 1048576 + d * (2 * (h / 16384 % 64) + 1)) % 4096) ≡ found_in s u
  looks_found t =
      let e : (h / 1048576 + d * (2 * (h / 16384 % 64) + 1)) % 4096 ≡ place_of s u = visited ∙ (rw t at next) in
      ap Some e ∙ rw (lt-ltb (place_of s u) 4096 (omega (arith, e)))

  pub looks_next : x ≡ false → Looks s u (d + 1)
  looks_next t = record { far = omega arith; rest = rw t at next }

seek_none : (s u : List ℕ) (n d : ℕ) → n ≡ 0 → 4096 ≡ seek s u n d
unfolding seek
seek_none s u n d h = rw h

pub looks_end : (s u : List ℕ) (d : ℕ) → Looks s u d → 4096 ≤ d → None ≡ found_in s u
looks_end s u d l h = rw (← (seek_none s u (4096 - d) d (omega arith) ∙ l.rest)) refl

pub ruleset looks = (looks_start, looks_found, looks_next, looks_end)

-- the part of the state that is entry i, written anew
pub put_is : (s x y : List ℕ) (i : ℕ) → x ≡ y → put_mid (32 * i) (32 * i + 32 - 32 * i) s x ≡ put s i y
unfolding put
put_is s x y i e =
    let z : 32 * i + 32 - 32 * i ≡ 32 = omega arith in
    rw (z, e, drop-drop 32 (32 * i) s)

-- what is found is the place
pub found_place : (s u : List ℕ) (i : ℕ) → Some i ≡ found_in s u → (i ≡ place_of s u) × (place_of s u < 4096)
found_place s u i e = by (ltb (place_of s u) 4096) refl e
  where
    by : (b : Bool) → ltb (place_of s u) 4096 ≡ b → Some i ≡ cond b (Some (place_of s u)) None → (i ≡ place_of s u) × (place_of s u < 4096)
    by true q e = (cc, ltb-true (place_of s u) 4096 q)
    by false q e = absurd (cc)
