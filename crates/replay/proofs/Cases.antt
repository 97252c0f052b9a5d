-- The definitions computed on small traces, on each side of every line of document 02's Q-8.
use Prim.Native.Nat.{ℕ}
use mathlib.Core.Path.{◌≡◌, refl}
use mathlib.Core.Bool.{true, false}
use mathlib.Core.List.{List, [], ◌∷◌, ◌++◌}
use native.Mathlib.Omega.{arith}
use lib.Dec.{lit≤}
use lib.ListN.{length, take}
use Rattle.words.specs.Numbers.{number_low}
use Rattle.words.specs.Slices.{same, zeros}
use Rattle.replay.specs.Trace.{count_of, events_of, first_events, fine}
use Rattle.replay.specs.Cancelled.{Cancelled, IsLatest}
use Rattle.replay.specs.Acceptance.{admits, distinct, gathered, within}
use Rattle.std.specs.Prelude.{Ok, Err}
use Rattle.replay.specs.declared.ReplayRefusal.TheVariants.{Record}
use Rattle.replay.specs.Replay.{Replayed}
use Rattle.replay.proofs.Marks.{mark_in, mark_latest, marks_cancelled, cancelled_marks}
use Rattle.replay.proofs.Verdicts.{verdict}

-- a record of the login with that first byte, at a time below 256, of kind k, with p as the last byte of its pad
abbrev a_record : ℕ → ℕ → ℕ → ℕ → List ℕ
a_record u t k p = u ∷ zeros 15 ++ (t ∷ 0 ∷ 0 ∷ 0 ∷ k ∷ zeros 10 ++ (p ∷ []))

abbrev edit : ℕ → List ℕ
edit t = a_record 7 t 1 0

abbrev cancel : ℕ → List ℕ
cancel t = a_record 7 t 2 0

abbrev reissue : ℕ → List ℕ
reissue t = a_record 7 t 3 0

kind_0 : fine (a_record 7 5 0 0) ≡ false
unfolding fine
kind_0 = refl

kind_1 : fine (edit 5) ≡ true
unfolding fine same
kind_1 = refl

kind_3 : fine (reissue 5) ≡ true
unfolding fine same
kind_3 = refl

kind_4 : fine (a_record 7 5 4 0) ≡ false
unfolding fine
kind_4 = refl

pad_1 : fine (a_record 7 5 1 1) ≡ false
unfolding fine same
pad_1 = refl

-- the first byte of the pad; above, the last
pad_0 : fine (7 ∷ zeros 19 ++ (1 ∷ 1 ∷ zeros 10)) ≡ false
unfolding fine same
pad_0 = refl

cut_31 : fine (take 31 (edit 5)) ≡ false
unfolding fine
cut_31 = refl

-- the answer to a trace that comes first
abbrev answer : List ℕ → Replayed
answer t = verdict [] t (count_of t)

-- the empty trace is accepted; a cut record is numbered by the whole ones before it; the first fault decides
empty : answer [] ≡ Ok tt
unfolding verdict
empty = refl

both : answer (cancel 5 ++ reissue 5) ≡ Ok tt
unfolding verdict first_events fine same admits gathered within number_low
both = refl

cut : answer (cancel 5 ++ take 1 (reissue 5)) ≡ Err (Record 1)
unfolding verdict first_events fine same admits gathered within number_low
cut = refl

first : answer (cancel 5 ++ (a_record 7 5 9 0 ++ take 1 (reissue 5))) ≡ Err (Record 1)
unfolding verdict first_events fine same admits gathered within number_low
first = refl

-- the login with the first byte 7
abbrev u : List ℕ
u = 7 ∷ zeros 15

-- a cancel and a reissue at the same time: cancelled; one second later: not; an edit after a cancel: cancelled
equal : Cancelled u (events_of (reissue 5 ++ cancel 5))
unfolding mark_in first_events same number_low
equal = marks_cancelled u _ (lit≤ tt) (lit≤ tt)

later : Cancelled u (events_of (cancel 5 ++ reissue 6)) → ⊥
unfolding mark_in first_events same number_low
later c = let m = cancelled_marks u (events_of (cancel 5 ++ reissue 6)) c in omega (arith, m.1)

-- later than some cancel, and not than the latest
between : Cancelled u (events_of (cancel 7 ++ (reissue 6 ++ cancel 5)))
unfolding mark_in first_events same number_low
between = marks_cancelled u _ (lit≤ tt) (lit≤ tt)

edited : Cancelled u (events_of (cancel 5 ++ edit 9))
unfolding mark_in first_events same number_low
edited = marks_cancelled u _ (lit≤ tt) (lit≤ tt)

unknown : Cancelled u (events_of (edit 5 ++ reissue 6)) → ⊥
unfolding mark_in first_events same number_low
unknown c = let m = cancelled_marks u (events_of (edit 5 ++ reissue 6)) c in omega (arith, m.0)

-- the latest of two, whichever comes first
latest : IsLatest 2 u (events_of (cancel 7 ++ cancel 5)) 7
unfolding mark_in first_events same number_low
latest = mark_latest 2 u _ (lit≤ tt) 7 refl

latest_again : IsLatest 2 u (events_of (cancel 5 ++ cancel 7)) 7
unfolding mark_in first_events same number_low
latest_again = mark_latest 2 u _ (lit≤ tt) 7 refl

-- a time has four bytes, the lowest first; time 0 counts
high : IsLatest 2 u (events_of (7 ∷ zeros 15 ++ (1 ∷ 2 ∷ 3 ∷ 4 ∷ 2 ∷ zeros 11))) 67305985
unfolding mark_in first_events same number_low
high = mark_latest 2 u _ (lit≤ tt) 67305985 refl

at_zero : Cancelled u (events_of (cancel 0 ++ reissue 0))
unfolding mark_in first_events same number_low
at_zero = marks_cancelled u _ (lit≤ tt) (lit≤ tt)

-- another login's reissue does not count
another : Cancelled u (events_of (cancel 5 ++ a_record 8 6 3 0))
unfolding mark_in first_events same number_low
another = marks_cancelled u _ (lit≤ tt) (lit≤ tt)

-- an edit takes room, and two records of one UUID take it once
three_logins : length (distinct (events_of (a_record 1 5 1 0 ++ (a_record 2 5 2 0 ++ (a_record 3 5 3 0 ++ a_record 1 6 2 0))))) ≡ 3
unfolding gathered within first_events same number_low
three_logins = refl
