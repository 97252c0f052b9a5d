-- Two passes come to what one does. Where a look-up ends depends on which entries are taken, and by whom; the first pass takes the same entries as recording would, so the first fault is the same, and recording into entries that wait leaves what recording alone leaves: a place that is reserved later can be reserved after an earlier record goes in.
use Prim.Native.Nat.{ℕ, zero, suc, ◌^◌, ◌<◌, max}
use mathlib.Core.Path.{◌≡◌, refl, sym, ap, ap₂, subst, ◌∙◌}
use mathlib.Core.Bool.{Bool, true, false, cond}
use mathlib.Core.Logic.{⊎_elim}
use mathlib.Core.List.{List}
use native.Mathlib.Nat.{eq-or-lt_of_le}
use native.Mathlib.Omega.{arith}
use lib.Dec.{ltb}
use borrow.Author.Tests.{eq-eqb, ne_eqb, ltb-true}
use lib.ListN.{length, take}
use Rattle.words.specs.Numbers.{Bytes}
use Rattle.words.specs.Slices.{same}
use Rattle.replay.specs.Trace.{record_at, event_of, fine}
use Rattle.replay.specs.State.{entry_at, cancel_of, reissue_of, entry_of, put, stops, place_of, mark_of, noted}
use Rattle.replay.specs.Replay.{goes_in, with_record, recorded_to}
use Rattle.replay.specs.Waiting.{waiting, with_place, reserved_to, Owned}
use Rattle.words.proofs.Either.{eq_or_ne}
use Rattle.replay.proofs.Fine.{id_long, record_bytes, brings}
use Rattle.replay.proofs.Tidy.{Tidy, both, tidy_cancel, tidy_reissue, tidy_blank, tidy_small, mark_range, larger_mark}
use Rattle.replay.proofs.Entries.{entry_of_long, entry_cancel, entry_reissue, put_self, put_again, put_swap}
use Rattle.replay.proofs.Lookup.{places_alike, stops_alike}
use Rattle.replay.proofs.Placed as placed
use Rattle.replay.proofs.Placed.{free, stop_own}

-- look-ups go alike in x and y
abbrev pub Twins : List ℕ → List ℕ → Type 0
Twins x y = (u : List ℕ) (k : ℕ) → k < 4096 → stops x u k ≡ stops y u k

same_place : (x y u : List ℕ) → Twins x y → place_of x u ≡ place_of y u
same_place x y u t = places_alike x y u (t u)

-- as long as a state, with marks that a sum can't overflow
pub record Long (s : List ℕ) : Type 0 where
  pub long : length s ≡ 131072
  pub small : (k : ℕ) → k < 4096 → cancel_of (entry_at s k) < 2 ^ 34

pub tidy_long : (s : List ℕ) → Tidy s → Long s
tidy_long s v = record { long = v.long; small = λ k l. omega (arith, (tidy_small (entry_at s k) (v.each k l)).cancel) }

-- a place for w
module _ (s : List ℕ) (v : Long s) (w : List ℕ) (h : length w ≡ 16) (p : place_of s w < 4096) where
  pub kept_free : free s (place_of s w) → with_place s w ≡ put s (place_of s w) (waiting w)
  unfolding with_place
  kept_free z = ap (λ (b : Bool). put s (place_of s w) (cond b (waiting w) (entry_at s (place_of s w)))) (eq-eqb (cancel_of (entry_at s (place_of s w))) 0 z)

  pub kept_taken : (free s (place_of s w) → ⊥) → with_place s w ≡ s
  unfolding with_place
  kept_taken n =
      ap (λ (b : Bool). put s (place_of s w) (cond b (waiting w) (entry_at s (place_of s w)))) (ne_eqb (cancel_of (entry_at s (place_of s w))) 0 n)
      ∙ put_self s v.long (place_of s w) p

  pub there : (k : ℕ) → (k ≡ place_of s w → ⊥) → entry_at (with_place s w) k ≡ entry_at s k
  there k n =
      ⊎_elim
      (λ z. ap (λ (x : List ℕ). entry_at x k) (kept_free z) ∙ placed.there s v.long w 1 0 h p (omega arith) (omega arith) k n)
      (λ t. ap (λ (x : List ℕ). entry_at x k) (kept_taken t))
      (eq_or_ne (cancel_of (entry_at s (place_of s w))) 0)

  -- where w is, and that it is taken
  stops_here : (u : List ℕ) → stops (with_place s w) u (place_of s w) ≡ same w u
  stops_here u =
      ⊎_elim
      (λ z. ap (λ (x : List ℕ). stops x u (place_of s w)) (kept_free z) ∙ placed.stops_here s v.long w 1 0 h p (omega arith) (omega arith) u)
      (λ t. ap (λ (x : List ℕ). stops x u (place_of s w)) (kept_taken t) ∙ stop_own s w u (place_of s w) (placed.stop_place s w p) t)
      (eq_or_ne (cancel_of (entry_at s (place_of s w))) 0)

  stops_there : (u : List ℕ) (k : ℕ) → (k ≡ place_of s w → ⊥) → stops (with_place s w) u k ≡ stops s u k
  stops_there u k n = stops_alike (with_place s w) s u k (there k n)

  pub place_long : Long (with_place s w)
  place_long = ⊎_elim (λ z. by z) (λ t. subst Long (sym (kept_taken t)) v) (eq_or_ne (cancel_of (entry_at s (place_of s w))) 0)
    where
      by : free s (place_of s w) → Long (with_place s w)
      by z = record {
        long = ap length (kept_free z) ∙ placed.still_long s v.long w 1 0 h p (omega arith) (omega arith);
        small = λ k l. ⊎_elim
            (λ e. omega (arith, ap (λ (x : List ℕ). cancel_of (entry_at x k)) (kept_free z) ∙ ap (λ (j : ℕ). cancel_of (entry_at (put s (place_of s w) (waiting w)) j)) e ∙ placed.cancel_here s v.long w 1 0 h p (omega arith) (omega arith)))
            (λ n. omega (arith, ap cancel_of (there k n), v.small k l))
            (eq_or_ne k (place_of s w));
      }

  -- whoever has an entry keeps it, where it is
  module _ (u : List ℕ) (o : Owned s u) where
    own_place : place_of (with_place s w) u ≡ place_of s u
    own_place =
        ⊎_elim
        (λ z. ap (λ (x : List ℕ). place_of x u) (kept_free z) ∙ placed.ends s v.long w 1 0 h p (omega arith) (omega arith) u o.low
        (placed.stops_there s v.long w 1 0 h p (omega arith) (omega arith) u (place_of s u) (λ e. o.busy (ap (λ (k : ℕ). cancel_of (entry_at s k)) e ∙ z)) ∙ placed.stop_place s u o.low))
        (λ t. ap (λ (x : List ℕ). place_of x u) (kept_taken t))
        (eq_or_ne (cancel_of (entry_at s (place_of s w))) 0)

    own_entry : entry_at (with_place s w) (place_of s u) ≡ entry_at s (place_of s u)
    own_entry =
        ⊎_elim
        (λ z. there (place_of s u) (λ e. o.busy (ap (λ (k : ℕ). cancel_of (entry_at s k)) e ∙ z)))
        (λ t. ap (λ (x : List ℕ). entry_at x (place_of s u)) (kept_taken t))
        (eq_or_ne (cancel_of (entry_at s (place_of s w))) 0)

    pub owned_still : Owned (with_place s w) u
    owned_still = record { low = omega (arith, own_place, o.low); busy = λ z. o.busy (ap cancel_of (sym (ap (entry_at (with_place s w)) own_place ∙ own_entry)) ∙ z) }

  -- and w has one now
  own_here : place_of (with_place s w) w ≡ place_of s w
  own_here =
      ⊎_elim
      (λ z. ap (λ (x : List ℕ). place_of x w) (kept_free z) ∙ placed.own_here s v.long w 1 0 h p (omega arith) (omega arith))
      (λ t. ap (λ (x : List ℕ). place_of x w) (kept_taken t))
      (eq_or_ne (cancel_of (entry_at s (place_of s w))) 0)

  busy_here : free (with_place s w) (place_of s w) → ⊥
  busy_here =
      ⊎_elim
      (λ z. λ q. placed.taken_here s v.long w 1 0 h p (omega arith) (omega arith) (ap (λ (x : List ℕ). cancel_of (entry_at x (place_of s w))) (sym (kept_free z)) ∙ q))
      (λ t. λ q. t (ap (λ (x : List ℕ). cancel_of (entry_at x (place_of s w))) (sym (kept_taken t)) ∙ q))
      (eq_or_ne (cancel_of (entry_at s (place_of s w))) 0)

  pub owned_new : Owned (with_place s w) w
  owned_new = record { low = omega (arith, own_here, p); busy = λ z. busy_here (ap (λ (k : ℕ). cancel_of (entry_at (with_place s w) k)) (sym own_here) ∙ z) }

-- a record r of bytes that is fine
module _ (r : List ℕ) (b : Bytes r) (f : fine r ≡ true) where
  abbrev w : List ℕ
  w = take 16 r

  module _ (s : List ℕ) (v : Long s) (p : place_of s w < 4096) where
    abbrev c : ℕ
    c = max (cancel_of (entry_at s (place_of s w))) (mark_of 2 (event_of r))

    abbrev d : ℕ
    d = max (reissue_of (entry_at s (place_of s w))) (mark_of 3 (event_of r))

    c₁ : 0 < c
    c₁ = omega (arith, mark_range (mark_of 2 (event_of r)) (brings r b f 2))

    c₂ : c < 2 ^ 34
    c₂ = omega (arith, mark_range (mark_of 2 (event_of r)) (brings r b f 2), v.small (place_of s w) p)

    is_put : with_record s r ≡ put s (place_of s w) (entry_of w c d)
    unfolding with_record
    is_put = refl

    noted_there : (k : ℕ) → (k ≡ place_of s w → ⊥) → entry_at (with_record s r) k ≡ entry_at s k
    noted_there k n = ap (λ (x : List ℕ). entry_at x k) is_put ∙ placed.there s v.long w c d (id_long r f) p c₁ c₂ k n

    pub record_long : Long (with_record s r)
    record_long = record {
      long = ap length is_put ∙ placed.still_long s v.long w c d (id_long r f) p c₁ c₂;
      small = λ k l. ⊎_elim
          (λ e. omega (arith, ap (λ (x : List ℕ). cancel_of (entry_at x k)) is_put ∙ ap (λ (j : ℕ). cancel_of (entry_at (put s (place_of s w) (entry_of w c d)) j)) e ∙ placed.cancel_here s v.long w c d (id_long r f) p c₁ c₂, c₂))
          (λ n. omega (arith, ap cancel_of (noted_there k n), v.small k l))
          (eq_or_ne k (place_of s w));
    }

    noted_stops : (u : List ℕ) → stops (with_record s r) u (place_of s w) ≡ same w u
    noted_stops u = ap (λ (x : List ℕ). stops x u (place_of s w)) is_put ∙ placed.stops_here s v.long w c d (id_long r f) p c₁ c₂ u

    noted_busy : free (with_record s r) (place_of s w) → ⊥
    noted_busy z = placed.taken_here s v.long w c d (id_long r f) p c₁ c₂ (ap (λ (x : List ℕ). cancel_of (entry_at x (place_of s w))) (sym is_put) ∙ z)

    -- recording and reserving take the same entry
    pub twins_next : (y : List ℕ) → Long y → Twins s y → Twins (with_record s r) (with_place y w)
    twins_next y l t u k g =
        let q = same_place s y w t in
        let o : place_of y w < 4096 = omega (arith, q, p) in
        ⊎_elim
        (λ e. ap (stops (with_record s r) u) e ∙ noted_stops u ∙ sym (stops_here y l w (id_long r f) o u) ∙ ap (stops (with_place y w) u) (sym (e ∙ q)))
        (λ n. stops_alike (with_record s r) s u k (noted_there k n) ∙ t u k g ∙ sym (stops_there y l w (id_long r f) o u k (λ e. n (e ∙ sym q))))
        (eq_or_ne k (place_of s w))

    -- reserving and then recording is recording
    pub reserved_recorded : (free s (place_of s w) → reissue_of (entry_at s (place_of s w)) ≡ 0) → with_record (with_place s w) r ≡ with_record s r
    unfolding with_record
    reserved_recorded blank = ⊎_elim by (λ t. ap (λ (x : List ℕ). put x (place_of x w) (noted (entry_at x (place_of x w)) r)) (kept_taken s v w (id_long r f) p t)) (eq_or_ne (cancel_of (entry_at s (place_of s w))) 0)
      where
        by : free s (place_of s w) → put (with_place s w) (place_of (with_place s w) w) (noted (entry_at (with_place s w) (place_of (with_place s w) w)) r) ≡ put s (place_of s w) (noted (entry_at s (place_of s w)) r)
        by z =
            let e = kept_free s v w (id_long r f) p z in
            let n : entry_at (with_place s w) (place_of s w) ≡ waiting w = ap (λ (x : List ℕ). entry_at x (place_of s w)) e ∙ placed.here s v.long w 1 0 (id_long r f) p (omega arith) (omega arith) in
            let m : max 1 (mark_of 2 (event_of r)) ≡ c = omega (arith, mark_range (mark_of 2 (event_of r)) (brings r b f 2), z) in
            let o : max 0 (mark_of 3 (event_of r)) ≡ d = omega (arith, blank z) in
            ap (λ (k : ℕ). put (with_place s w) k (noted (entry_at (with_place s w) k) r)) (own_here s v w (id_long r f) p)
            ∙ ap₂ (λ (x y : List ℕ). put x (place_of s w) (noted y r)) e n
            ∙ ap (put (put s (place_of s w) (waiting w)) (place_of s w)) (ap₂ (entry_of w) (ap (λ (k : ℕ). max k (mark_of 2 (event_of r))) (entry_cancel w 1 0 (id_long r f) (omega arith)) ∙ m) (ap (λ (k : ℕ). max k (mark_of 3 (event_of r))) (entry_reissue w 1 0 (id_long r f) (omega arith)) ∙ o))
            ∙ put_again s v.long (place_of s w) p (waiting w) (entry_of w c d) (entry_of_long w 1 0 (id_long r f)) (entry_of_long w c d (id_long r f))

  -- recording where the place and the entry are those of s
  into_place : (s u : List ℕ) → place_of (with_place s u) w ≡ place_of s w → entry_at (with_place s u) (place_of s w) ≡ entry_at s (place_of s w)
      → with_record (with_place s u) r ≡ put (with_place s u) (place_of s w) (noted (entry_at s (place_of s w)) r)
  unfolding with_record
  into_place s u e f =
      ap (λ (k : ℕ). put (with_place s u) k (noted (entry_at (with_place s u) k) r)) e ∙ ap (λ (x : List ℕ). put (with_place s u) (place_of s w) (noted x r)) f

  -- where w has an entry, recording moves no look-up, and a place that is reserved for u can be reserved after it
  module _ (s : List ℕ) (v : Long s) (o : Owned s w) where
    pub record_twins : Twins (with_record s r) s
    record_twins u k l =
        ap (λ (x : List ℕ). stops x u k) (is_put s v o.low)
        ∙ placed.places_stay s v.long w (c s v o.low) (d s v o.low) (id_long r f) o.low (c₁ s v o.low) (c₂ s v o.low) o.busy u k

    -- what was taken is taken
    still_busy : (k : ℕ) → (free s k → ⊥) → free (with_record s r) k → ⊥
    still_busy k n z =
        ⊎_elim
        (λ e. noted_busy s v o.low (ap (λ (j : ℕ). cancel_of (entry_at (with_record s r) j)) (sym e) ∙ z))
        (λ q. n (ap cancel_of (sym (noted_there s v o.low k q)) ∙ z))
        (eq_or_ne k (place_of s w))

    pub owned_after : (u : List ℕ) → Owned s u → Owned (with_record s r) u
    owned_after u x =
        let q = same_place (with_record s r) s u record_twins in
        record { low = omega (arith, q, x.low); busy = λ z. still_busy (place_of s u) x.busy (ap (λ (k : ℕ). cancel_of (entry_at (with_record s r) k)) (sym q) ∙ z) }

    pub record_then_place : (u : List ℕ) → length u ≡ 16 → place_of s u < 4096 → with_record (with_place s u) r ≡ with_place (with_record s r) u
    record_then_place u h l = ⊎_elim later (λ t. ap (λ (x : List ℕ). with_record x r) (kept_taken s v u h l t) ∙ sym (kept_taken (with_record s r) (record_long s v o.low) u h low (busy t))) (eq_or_ne (cancel_of (entry_at s (place_of s u))) 0)
      where
        q : place_of (with_record s r) u ≡ place_of s u
        q = same_place (with_record s r) s u record_twins

        low : place_of (with_record s r) u < 4096
        low = omega (arith, q, l)

        busy : (free s (place_of s u) → ⊥) → free (with_record s r) (place_of (with_record s r) u) → ⊥
        busy t z = still_busy (place_of s u) t (ap (λ (k : ℕ). cancel_of (entry_at (with_record s r) k)) (sym q) ∙ z)

        later : free s (place_of s u) → with_record (with_place s u) r ≡ with_place (with_record s r) u
        later z =
            let n : place_of s u ≡ place_of s w → ⊥ = λ e. o.busy (ap (λ (k : ℕ). cancel_of (entry_at s k)) (sym e) ∙ z) in
            let y : free (with_record s r) (place_of (with_record s r) u) = ap (λ (k : ℕ). cancel_of (entry_at (with_record s r) k)) q ∙ ap cancel_of (noted_there s v o.low (place_of s u) n) ∙ z in
            into_place s u (own_place s v u h l w o) (own_entry s v u h l w o)
            ∙ ap (λ (x : List ℕ). put x (place_of s w) (noted (entry_at s (place_of s w)) r)) (kept_free s v u h l z)
            ∙ put_swap s v.long (place_of s u) l (waiting u) (noted (entry_at s (place_of s w)) r) (entry_of_long u 1 0 h) (entry_of_long w (c s v o.low) (d s v o.low) (id_long r f)) (place_of s w) o.low (λ e. n (sym e))
            ∙ sym (kept_free (with_record s r) (record_long s v o.low) u h low y ∙ ap₂ (λ (x : List ℕ) (k : ℕ). put x k (waiting u)) (is_put s v o.low) q)

  pub record_tidy : (s : List ℕ) → Tidy s → place_of s w < 4096 → Tidy (with_record s r)
  unfolding with_record
  record_tidy s v p =
      placed.tidy_put s v w _ _ (id_long r f) p
      (larger_mark (cancel_of (entry_at s (place_of s w))) (mark_of 2 (event_of r)) (tidy_cancel (entry_at s (place_of s w)) (v.each (place_of s w) p)) (brings r b f 2))
      (larger_mark (reissue_of (entry_at s (place_of s w))) (mark_of 3 (event_of r)) (tidy_reissue (entry_at s (place_of s w)) (v.each (place_of s w) p)) (brings r b f 3))

-- the same test in twins
goes_alike : (x y r : List ℕ) → Twins x y → goes_in x r ≡ goes_in y r
goes_alike x y r t = ap (λ (k : ℕ). cond (fine r) (ltb k 4096) false) (same_place x y (take 16 r) t)

-- a record that goes in is fine and has a place
pub goes_both : (s r : List ℕ) → goes_in s r ≡ true → (fine r ≡ true) × (place_of s (take 16 r) < 4096)
goes_both s r g = let b = both (fine r) (ltb (place_of s (take 16 r)) 4096) g in (b.0, ltb-true (place_of s (take 16 r)) 4096 b.1)

-- the first n records of t
module _ (t : List ℕ) (b : Bytes t) where
  -- of records that all have entries, as they are recorded one after the other: no look-up moves
  pub record Settled (z : List ℕ) (n : ℕ) : Type 0 where
    pub long : Long (recorded_to z t n)
    pub twins : Twins (recorded_to z t n) z
    pub owned : (u : List ℕ) → Owned z u → Owned (recorded_to z t n) u

  pub settled : (z : List ℕ) → Long z → (n : ℕ) → ((k : ℕ) → k < n → fine (record_at t k) ≡ true) → ((k : ℕ) → k < n → Owned z (take 16 (record_at t k))) → Settled z n
  unfolding recorded_to
  settled z v zero f o = record { long = v; twins = λ u k l. refl; owned = λ u x. x }
  settled z v (suc n) f o =
      let h = settled z v n (λ k l. f k (omega arith)) (λ k l. o k (omega arith)) in
      let r = record_at t n in
      let x = recorded_to z t n in
      let i = f n (omega arith) in
      let m = h.owned (take 16 r) (o n (omega arith)) in
      record {
        long = record_long r (record_bytes t b n) i x h.long m.low;
        twins = λ u k l. record_twins r (record_bytes t b n) i x h.long m u k l ∙ h.twins u k l;
        owned = λ u y. owned_after r (record_bytes t b n) i x h.long m u (h.owned u y);
      }

  -- a place reserved before them is a place reserved after them
  place_after : (z : List ℕ) → Long z → (u : List ℕ) → length u ≡ 16 → place_of z u < 4096 → (n : ℕ) → ((k : ℕ) → k < n → fine (record_at t k) ≡ true)
      → ((k : ℕ) → k < n → Owned z (take 16 (record_at t k))) → recorded_to (with_place z u) t n ≡ with_place (recorded_to z t n) u
  unfolding recorded_to
  place_after z v u l p zero f o = refl
  place_after z v u l p (suc n) f o =
      let g : (k : ℕ) → k < n → fine (record_at t k) ≡ true = λ k i. f k (omega arith) in
      let q : (k : ℕ) → k < n → Owned z (take 16 (record_at t k)) = λ k i. o k (omega arith) in
      let h = settled z v n g q in
      ap (λ (x : List ℕ). with_record x (record_at t n)) (place_after z v u l p n g q)
      ∙ record_then_place (record_at t n) (record_bytes t b n) (f n (omega arith)) (recorded_to z t n) h.long (h.owned (take 16 (record_at t n)) (o n (omega arith))) u l (omega (arith, same_place (recorded_to z t n) z u h.twins, p))

  module _ (s : List ℕ) (v : Tidy s) where
    -- the first n records all go in, as they are reserved
    abbrev pub AllGo : ℕ → Type 0
    AllGo n = (k : ℕ) → k < n → goes_in (reserved_to s t k) (record_at t k) ≡ true

    -- and so they do, as they are recorded
    pub record Passed (n : ℕ) : Type 0 where
      pub state : Tidy (recorded_to s t n)
      pub long : Long (reserved_to s t n)
      pub twins : Twins (recorded_to s t n) (reserved_to s t n)
      pub owned : (k : ℕ) → k < n → Owned (reserved_to s t n) (take 16 (record_at t k))
      pub same : recorded_to (reserved_to s t n) t n ≡ recorded_to s t n

    pub passed : (n : ℕ) → AllGo n → Passed n
    unfolding recorded_to reserved_to
    passed zero g = record { state = v; long = tidy_long s v; twins = λ u k l. refl; owned = λ k l. absurd (omega arith); same = refl }
    passed (suc n) g =
        let h = passed n (λ k l. g k (omega arith)) in
        let r = record_at t n in
        let u = take 16 r in
        let x = recorded_to s t n in
        let y = reserved_to s t n in
        let i = goes_both y r (g n (omega arith)) in
        let e = same_place x y u h.twins in
        let p : place_of x u < 4096 = omega (arith, e, i.1) in
        let m = id_long r i.0 in
        let a = place_after y h.long u m i.1 n (λ k l. (goes_both (reserved_to s t k) (record_at t k) (g k (omega arith))).0) h.owned in
        record {
          state = record_tidy r (record_bytes t b n) i.0 x h.state p;
          long = place_long y h.long u m i.1;
          twins = twins_next r (record_bytes t b n) i.0 x (tidy_long x h.state) p y h.long h.twins;
          owned = λ k l. ⊎_elim
              (λ q. subst (λ (j : ℕ). Owned (with_place y u) (take 16 (record_at t j))) (sym q) (owned_new y h.long u m i.1))
              (λ q. owned_still y h.long u m i.1 (take 16 (record_at t k)) (h.owned k q))
              (eq-or-lt_of_le {n = k} {m = n} (omega arith));
          same = ap (λ (z : List ℕ). with_record z r) (a ∙ ap (λ (z : List ℕ). with_place z u) h.same)
              ∙ reserved_recorded r (record_bytes t b n) i.0 x (tidy_long x h.state) p (λ z. tidy_blank (entry_at x (place_of x u)) (h.state.each (place_of x u) p) z);
        }

    -- the tests agree
    pub tests_agree : (n : ℕ) → AllGo n → goes_in (recorded_to s t n) (record_at t n) ≡ goes_in (reserved_to s t n) (record_at t n)
    tests_agree n g = goes_alike (recorded_to s t n) (reserved_to s t n) (record_at t n) (passed n g).twins
