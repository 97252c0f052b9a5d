-- The loops over the records: so many records are ahead as are not yet read, and a turn reads the first of them (body, Ahead.antt). The check's: what the records ahead give is what the body gives.
use Prim.Native.Nat.{ℕ, ◌+◌, ◌<◌, ◌≤◌}
use mathlib.Core.Path.{◌≡◌, refl, sym, ap, ◌∙◌}
use mathlib.Core.Bool.{Bool, true, false}
use mathlib.Core.List.{List, [], ◌∷◌}
use native.Mathlib.Omega.{arith}
use lib.Dec.{ltb}
use lib.ListN.{length}
use borrow.Author.Tests.{ltb-true, ltb-false}
use Rattle.std.specs.Prelude.{Option, Some, None, Ok, Err}
use Rattle.fields.specs.Stored.{Stored}
use Rattle.body.specs.Decision.{is_well_formed}
use Rattle.body.specs.RecordAt.{record_at}
use Rattle.body.specs.declared.records.Record.{Record}
use Rattle.body.proofs.Ahead.{Ahead, Met, ahead_start, ahead_turn, ahead_stop}
use Rattle.logins.specs.Record.{fault_of}
use Rattle.logins.specs.Export.{body_records, or_others, checked_from, fault_at}

-- a record that is ahead stands within the body
turn : (s : List ℕ) (p : ℕ) (rs : List (List Stored)) (r : Record) → Ahead s p rs → 0 < length rs → r ≡ record_at s p → Met s p rs r
turn s p rs r a l e = by (ltb p (length s)) refl
  where
    by : (b : Bool) → ltb p (length s) ≡ b → Met s p rs r
    by true h = ahead_turn s p rs r a (ltb-true p (length s) h) e
    by false h = absurd (omega (arith, l, ap length (ahead_stop s p rs a (ltb-false p (length s) h))))

-- n of the body's records are read, and the next is at place p
pub record Reads (s : List ℕ) (p n : ℕ) : Type 0 where
  pub records : List (List Stored)
  pub ahead : Ahead s p records
  pub left : n + length records ≡ length (body_records s)

abbrev pub reads_start : (s : List ℕ) (h : Record) → is_well_formed s ≡ true → h ≡ record_at s 0 → Reads s h.next 0
reads_start s h w e = record { records = body_records s; ahead = (ahead_start s h w e).0; left = omega arith }

module _ (s : List ℕ) (p n : ℕ) (t : Reads s p n) where
  pub reads_turn : n < length (body_records s) → (r : Record) → r ≡ record_at s p → Met s p t.records r
  reads_turn l r e = turn s p t.records r t.ahead (omega (arith, t.left)) e

  abbrev pub reads_next : (r : Record) → Met s p t.records r → Reads s r.next (n + 1)
  reads_next r m = record { records = m.us; ahead = m.ahead; left = omega (arith, t.left, ap length m.are) }

  pub reads_stop : length (body_records s) ≤ n → t.records ≡ []
  reads_stop l = none t.records (omega (arith, t.left))
    where
      none : (rs : List (List Stored)) → length rs ≡ 0 → rs ≡ []
      none [] e = refl
      none (u ∷ us) e = absurd (omega arith)

-- and these decide
pub record Checks (s : List ℕ) (p n : ℕ) : Type 0 where
  pub reads : Reads s p n
  pub rest : checked_from n reads.records ≡ checked_from 0 (body_records s)

pub checks_start : (s : List ℕ) (h : Record) → is_well_formed s ≡ true → h ≡ record_at s 0 → Checks s h.next 0
checks_start s h w e = record { reads = reads_start s h w e; rest = refl }

module _ (s : List ℕ) (p n : ℕ) (t : Checks s p n) where
  pub checks_stop : length (body_records s) ≤ n → Ok tt ≡ checked_from 0 (body_records s)
  unfolding checked_from
  checks_stop l = ap (checked_from n) (sym (reads_stop s p n t.reads l)) ∙ t.rest

  module _ (l : n < length (body_records s)) (r : Record) (e : r ≡ record_at s p) (k : Option ℕ) (i : k ≡ fault_at s r.firsts) where
    abbrev met : Met s p t.reads.records r
    met = reads_turn s p n t.reads l r e

    fault_is : k ≡ fault_of met.u
    unfolding fault_at fault_of
    fault_is = i ∙ rw (met.title, met.user, met.group, met.expiry)

    next : or_others k n (checked_from (n + 1) met.us) ≡ checked_from 0 (body_records s)
    unfolding checked_from
    next = ap (λ (x : Option ℕ). or_others x n (checked_from (n + 1) met.us)) fault_is ∙ ap (checked_from n) (sym met.are) ∙ t.rest

    pub checks_found : (j : ℕ) → k ≡ Some j → Err (record { number = n; kind = j }) ≡ checked_from 0 (body_records s)
    checks_found j m = ap (λ (x : Option ℕ). or_others x n (checked_from (n + 1) met.us)) (sym m) ∙ next

    pub checks_next : k ≡ None → Checks s r.next (n + 1)
    checks_next m =
        record { reads = reads_next s p n t.reads r met; rest = ap (λ (x : Option ℕ). or_others x n (checked_from (n + 1) met.us)) (sym m) ∙ next }
