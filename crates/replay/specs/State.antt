-- A state of 131,072 bytes, as the code lays it out: 4,096 entries of 32 bytes. A free entry is zeros. A taken one is a UUID and two marks of 8 bytes, the lowest byte first: 2^32, or, once a cancel has come, 2^33 and the time of the latest; the second is the same of reissues. A UUID's entry is the first that is free or its own, in an order that its bytes give.
use Rattle.std.specs.Prelude.{ℕ, zero, suc, ◌+◌, ◌*◌, ◌/◌, ◌%◌, max, Bool, true, false, cond, List, ◌++◌, eqb, ltb, length, take, drop, Option, None, Some}
use Rattle.words.specs.Numbers.{number_low, bytes_low}
use Rattle.words.specs.Slices.{zeros, same}
use Rattle.replay.specs.Trace.{Event, event_of}
use Rattle.replay.specs.declared.entry.Kind.{Kind}
use Rattle.replay.specs.declared.entry.Kind.TheVariants.{Edit, Cancel, Reissue}

abbrev pub entry_at : List ℕ → ℕ → List ℕ
entry_at s k = take 32 (drop (32 * k) s)

abbrev pub id_of : List ℕ → List ℕ
id_of e = take 16 e

abbrev pub cancel_of : List ℕ → ℕ
cancel_of e = number_low (take 8 (drop 16 e))

abbrev pub reissue_of : List ℕ → ℕ
reissue_of e = number_low (take 8 (drop 24 e))

abbrev pub entry_of : List ℕ → ℕ → ℕ → List ℕ
entry_of u c d = u ++ (bytes_low 8 c ++ bytes_low 8 d)

abbrev pub is_mark : ℕ → Bool
is_mark m = cond (eqb m 4294967296) true (cond (ltb m 8589934592) false (ltb m 12884901888))

-- free or taken
unfoldable pub tidy : List ℕ → Bool
tidy e = cond (eqb (cancel_of e) 0) (same e (zeros 32)) (cond (is_mark (cancel_of e)) (is_mark (reissue_of e)) false)

unfoldable pub tidy_to : List ℕ → ℕ → Bool
tidy_to s zero = true
tidy_to s (suc n) = cond (tidy_to s n) (tidy (entry_at s n)) false

-- all other bytes are no state: no replay leaves them
unfoldable pub is_state : List ℕ → Bool
is_state s = cond (eqb (length s) 131072) (tidy_to s 4096) false

unfoldable pub fresh : List ℕ
fresh = zeros 131072

-- entry e in place of entry k
unfoldable pub put : List ℕ → ℕ → List ℕ → List ℕ
put s k e = take (32 * k) s ++ (e ++ drop (32 * k + 32) s)

-- the four bytes of s at place p
abbrev pub four : List ℕ → ℕ → List ℕ
four s p = take 4 (drop p s)

-- a number of 32 bits of u's bytes: any would do, and this one spreads
unfoldable pub spread_of : List ℕ → ℕ
spread_of u =
    (number_low (four u 0) + number_low (four u 4) + number_low (four u 8) + number_low (four u 12)) % 4294967296 * 2654435769 % 4294967296

-- the entry at which the look-up of u starts, and how far it goes on at each step: an odd number, so that it visits every entry
abbrev pub start_of : List ℕ → ℕ
start_of u = spread_of u / 1048576

abbrev pub step_of : List ℕ → ℕ
step_of u = 2 * (spread_of u / 16384 % 64) + 1

-- the d-th entry that it visits
abbrev pub slot : List ℕ → ℕ → ℕ
slot u d = (start_of u + d * step_of u) % 4096

-- the look-up of u ends at entry k: it is free, or u's
unfoldable pub stops : List ℕ → List ℕ → ℕ → Bool
stops s u k = cond (eqb (cancel_of (entry_at s k)) 0) true (same (id_of (entry_at s k)) u)

-- among n entries, from the d-th on that the look-up of u visits; 4,096 for none
unfoldable pub seek : List ℕ → List ℕ → ℕ → ℕ → ℕ
seek s u zero d = 4096
seek s u (suc n) d = cond (stops s u (slot u d)) (slot u d) (seek s u n (d + 1))

abbrev pub place_of : List ℕ → List ℕ → ℕ
place_of s u = seek s u 4096 0

-- the same as an entry, or none
abbrev pub found_in : List ℕ → List ℕ → Option ℕ
found_in s u = cond (ltb (place_of s u) 4096) (Some (place_of s u)) None

-- what an event brings to the mark of kind k
abbrev pub mark_of : ℕ → Event → ℕ
mark_of k e = cond (eqb e.kind k) (8589934592 + e.time) 4294967296

-- the kind of an event, as the code has it
abbrev pub kind_of : ℕ → Option Kind
kind_of k = cond (eqb k 1) (Some Edit) (cond (eqb k 2) (Some Cancel) (cond (eqb k 3) (Some Reissue) None))

-- what an event brings to the marks of cancels and of reissues
abbrev pub brought_of : Event → ℕ × ℕ
brought_of e = (mark_of 2 e, mark_of 3 e)

-- the entry e, with what the record r brings
abbrev pub noted : List ℕ → List ℕ → List ℕ
noted e r = entry_of (take 16 r) (max (cancel_of e) (mark_of 2 (event_of r))) (max (reissue_of e) (mark_of 3 (event_of r)))
