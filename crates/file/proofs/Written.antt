-- What is written is a safe, so it is read back; and an accepted file's own values are written as the same file, byte for byte.
use Prim.Native.Nat.{ℕ, ◌+◌, ◌-◌, ◌/◌, ◌%◌, ◌≤◌}
use mathlib.Core.Path.{◌≡◌, refl, sym, ap, ap₂, ◌∙◌}
use mathlib.Core.Logic.{◌↔◌}
use mathlib.Core.Bool.{Bool, true, false, ◌||◌, not}
use mathlib.Core.List.{List, ◌++◌}
use native.Mathlib.Omega.{arith}
use lib.Dec.{ltb, eqb}
use lib.ListN.{length, take}
use lib.Seq.{take_at}
use borrow.Author.Tests.{not-false, ltb-false, eqb-true, le-ltb, eq-eqb}
use Rattle.words.specs.Numbers.{Bytes, number_low}
use Rattle.words.specs.Slices.{zeros}
use Rattle.file.specs.Layout.{split}
use Rattle.file.specs.Edition.{Edition, Laws}
use Rattle.file.specs.Description.{IsSafe, cbc, file_of}
use Rattle.file.specs.Reading.{reading_of, Answers}
use Rattle.file.specs.Writing.{Values, Writing, unwritten, bad_body, clear, early_write_tests, write_tests, written, writing_of}
use Rattle.file.proofs.Tables.{Decided, passes, stops, decide, all_pass, first_between}
use Rattle.file.proofs.Markers.{clear_each, each_clear}
use Rattle.file.proofs.Accepted.{file_long, safe_read, read_safe}

-- the tests of a writing that is accepted
pub record Writable (E : Edition) (pass : List ℕ) (iter : ℕ) (K iv body : List ℕ) (room : ℕ) : Type 0 where
  pub t1 : bad_body (length body) ≡ false
  pub t2 : ltb 1024 (length pass) ≡ false
  pub t3 : ltb room (length body + 200) ≡ false
  pub t5 : ltb iter E.format.floor ≡ false
  pub t9 : not (E.is_well_formed body) ≡ false
  pub t10 : not (clear (length body / 16) (cbc E.format K iv body)) ≡ false

pub good_body : (n : ℕ) → bad_body n ≡ false → (32 ≤ n) × (n ≤ 4194096) × (n % 16 ≡ 0)
unfolding bad_body
good_body n h = go (ltb n 32) (ltb 4194096 n) (eqb (n % 16) 0) refl refl refl h
  where
    go : (a b c : Bool) → ltb n 32 ≡ a → ltb 4194096 n ≡ b → eqb (n % 16) 0 ≡ c → a || (b || not c) ≡ false
        → (32 ≤ n) × (n ≤ 4194096) × (n % 16 ≡ 0)
    go true b c p q r h = absurd (let z : ◌≡◌ {A = ℕ} 0 1 = cc in omega arith)
    go false true c p q r h = absurd (let z : ◌≡◌ {A = ℕ} 0 1 = cc in omega arith)
    go false false false p q r h = absurd (let z : ◌≡◌ {A = ℕ} 0 1 = cc in omega arith)
    go false false true p q r h = (ltb-false n 32 p, ltb-false 4194096 n q, eqb-true (n % 16) 0 r)

is_body : (n : ℕ) → 32 ≤ n → n ≤ 4194096 → n % 16 ≡ 0 → bad_body n ≡ false
unfolding bad_body
is_body n a b c = rw (le-ltb n 32 a, le-ltb 4194096 n b, eq-eqb (n % 16) 0 c)

-- a safe's file is the one that its values make
pub file_of_lem : (E : Edition) (X : Laws E) {pass file salt : List ℕ} {iter : ℕ} {K L iv body : List ℕ} → IsSafe E.format pass file salt iter K L iv body
    → file ≡ file_of E.format pass salt iter K L iv body (E.covered body)
file_of_lem E X {pass} {salt = salt} {iter = iter} {K = K} {L = L} {iv = iv} {body = body} z =
    z.is_file ∙ ap (file_of E.format pass salt iter K L iv body) (sym (X.decides body z.covered z.well_formed).1)

module _ (E : Edition) (X : Laws E) (pass salt : List ℕ) (iter : ℕ) (K L iv body : List ℕ) (room : ℕ) where
  is_written : Writable E pass iter K iv body room
      → writing_of E pass salt iter K L iv body room ≡ record { number = 0; output = file_of E.format pass salt iter K L iv body (E.covered body) ++ zeros (room - (length body + 200)) }
  unfolding writing_of written write_tests early_write_tests
  is_written w = all_pass (λ (k : ℕ). unwritten k room) _ (write_tests E.format (E.is_well_formed body) pass iter K iv body room) (w.t1, (w.t2, (w.t3, (w.t5, (w.t9, (w.t10, tt))))))

  writes : (writing_of E pass salt iter K L iv body room).number ≡ 0 → Writable E pass iter K iv body room
  unfolding writing_of written write_tests early_write_tests unwritten
  writes h = go (decide (λ (k : ℕ). unwritten k room) (record { number = 0; output = file_of E.format pass salt iter K L iv body (E.covered body) ++ zeros (room - (length body + 200)) }) (write_tests E.format (E.is_well_formed body) pass iter K iv body room))
    where
      go : Decided (λ (k : ℕ). unwritten k room) (write_tests E.format (E.is_well_formed body) pass iter K iv body room) (record { number = 0; output = file_of E.format pass salt iter K L iv body (E.covered body) ++ zeros (room - (length body + 200)) }) → Writable E pass iter K iv body room
      go (passes t e) = record { t1 = t.0; t2 = t.1.0; t3 = t.1.1.0; t5 = t.1.1.1.0; t9 = t.1.1.1.1.0; t10 = t.1.1.1.1.1.0 }
      go (stops k f e) =
          let b = first_between 1 10 k {ts = write_tests E.format (E.is_well_formed body) pass iter K iv body room} refl f in
          let z : 0 ≡ k = sym h ∙ ap (λ (w : Writing). w.number) e in absurd (omega arith)

  pub written_safe : Values salt iter K L iv body → Writable E pass iter K iv body room → IsSafe E.format pass (file_of E.format pass salt iter K L iv body (E.covered body)) salt iter K L iv body
  written_safe v w =
      let g = good_body (length body) w.t1 in
      record {
        passphrase_fits = ltb-false 1024 (length pass) w.t2;
        salt_sized = v.salt_sized;
        iter_floor = ltb-false iter E.format.floor w.t5;
        iter_fits = v.iter_fits;
        K_sized = v.K_sized;
        L_sized = v.L_sized;
        iv_sized = v.iv_sized;
        body_bytes = v.body_bytes;
        body_least = g.0;
        body_most = g.1;
        body_whole = g.2;
        covered = E.covered body;
        well_formed = X.describes body v.body_bytes (not-false (E.is_well_formed body) w.t9);
        no_marker = clear_each (length body / 16) (cbc E.format K iv body) (not-false (clear (length body / 16) (cbc E.format K iv body)) w.t10);
        is_file = refl;
      }

  pub safe_writes : {file : List ℕ} → IsSafe E.format pass file salt iter K L iv body → length body + 200 ≤ room → Writable E pass iter K iv body room
  safe_writes z h = record {
    t1 = is_body (length body) z.body_least z.body_most z.body_whole;
    t2 = le-ltb 1024 (length pass) z.passphrase_fits;
    t3 = le-ltb room (length body + 200) h;
    t5 = le-ltb iter E.format.floor z.iter_floor;
    t9 = ap not (X.decides body z.covered z.well_formed).0;
    t10 = ap not (each_clear (length body / 16) (cbc E.format K iv body) z.no_marker);
  }

  -- the writer accepts exactly what is a safe that fits
  pub write_exactly : Values salt iter K L iv body
      → ((writing_of E pass salt iter K L iv body room).number ≡ 0) ↔ ((file : List ℕ) × IsSafe E.format pass file salt iter K L iv body × (length body + 200 ≤ room))
  write_exactly v = (
    λ h. (_, written_safe v (writes h), ltb-false room (length body + 200) (writes h).t3),
    λ t. ap (λ (w : Writing). w.number) (is_written (safe_writes t.1 t.2)),
  )

  -- READING BACK: the file stands at the front of the output, zeros follow, and it is read as the same body and keys
  module _ (v : Values salt iter K L iv body) (h : (writing_of E pass salt iter K L iv body room).number ≡ 0) where
    pub output_is : (writing_of E pass salt iter K L iv body room).output ≡ file_of E.format pass salt iter K L iv body (E.covered body) ++ zeros (room - (length body + 200))
    output_is = ap (λ (w : Writing). w.output) (is_written (writes h))

    pub front_is : take (length body + 200) (writing_of E pass salt iter K L iv body room).output ≡ file_of E.format pass salt iter K L iv body (E.covered body)
    front_is =
        let f = file_long E X pass (file_of E.format pass salt iter K L iv body (E.covered body)) salt iter K L iv body (written_safe v (writes h)) in
        ap (take (length body + 200)) output_is ∙ take_at (file_of E.format pass salt iter K L iv body (E.covered body)) (zeros (room - (length body + 200))) (length body + 200) (omega arith)

    pub read_back : (ceiling space : ℕ) → iter ≤ ceiling → length body ≤ space
        → Answers (reading_of E (take (length body + 200) (writing_of E pass salt iter K L iv body room).output) pass ceiling space) K L body
    read_back ceiling space hc hs =
        rw front_is (safe_read E X pass (file_of E.format pass salt iter K L iv body (E.covered body)) salt iter K L iv body (written_safe v (writes h)) ceiling space hc hs)

abbrev holding : List ℕ → Writing
holding o = record { number = 0; output = o }

-- WRITING AGAIN: an accepted file's own values give the same file, and zeros after it
module _ (E : Edition) (X : Laws E) (file pass : List ℕ) (ceiling room : ℕ) (fb : Bytes file) (K L body : List ℕ)
    (a : Answers (reading_of E file pass ceiling room) K L body) where
  pub write_again : (space : ℕ) → length file ≤ space
      → writing_of E pass (split file).salt (number_low (split file).iter) K L (split file).iv body space ≡ record { number = 0; output = file ++ zeros (space - length file) }
  write_again space h =
      let r = read_safe E X file pass ceiling room fb K L body a in
      let z = r.is_safe in
      let l = file_long E X pass file (split file).salt (number_low (split file).iter) K L (split file).iv body z in
      let e : space - (length body + 200) ≡ space - length file = omega arith in
      is_written E X pass (split file).salt (number_low (split file).iter) K L (split file).iv body space
      (safe_writes E X pass (split file).salt (number_low (split file).iter) K L (split file).iv body space z (omega arith))
      ∙ ap₂ (λ (f : List ℕ) (n : ℕ). holding (f ++ zeros n)) (sym (file_of_lem E X z)) e
