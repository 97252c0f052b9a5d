-- The code's answers are the report's: an early refusal, a failed check, a body that is accepted or not. By the tests that each has passed.
use Prim.Native.Nat.{ℕ, ◌+◌, ◌-◌, ◌*◌, ◌/◌, ◌≤◌}
use mathlib.Core.Path.{◌≡◌, refl, sym, ap, ap₂, ◌∙◌}
use mathlib.Core.Bool.{Bool, true, false, cond, not}
use mathlib.Core.List.{List, [], ◌++◌, append_assoc, append-nil}
use native.Mathlib.Nat.{sub-zero}
use native.Mathlib.Omega.{arith}
use lib.Dec.{eqb, lit≤}
use lib.ListN.{length, take, drop, length-replicate, length-drop, replicate-append-replicate}
use lib.Seq.{take_all, length-take-le}
use Rattle.words.specs.Numbers.{number_low}
use Rattle.words.specs.Slices.{zeros, copied, same}
use Rattle.std.specs.Prelude.{Result, Ok, Err, Option, Some}
use Rattle.std.specs.Option.{option_eq}
use Rattle.sha256.specs.Hmac.{hmac_of}
use Rattle.stretch.specs.Stretch.{start_of, step_of, stretched_of, key_of}
use Rattle.stretch.specs.declared.Stretcher.{Stretcher}
use Rattle.body.specs.Decision.{is_well_formed, covered_of, headers_of, records_of}
use Rattle.body.specs.declared.Counts.{Counts}
use Rattle.words.proofs.ByteLaws.{drop_same}
use Rattle.words.proofs.SliceLaws.{copied_whole}
use Rattle.file.specs.Layout.{split, first_marker, marked_at}
use Rattle.file.specs.Refusals.{Test}
use Rattle.file.specs.Edition.{Stretched}
use Rattle.file.specs.Reading.{Report, refused, accepted, workspace_of, early_tests, key_k, key_l, body_tests, settled, checked, reading_of}
use borrow.Author.Tests.{ltb-false}
use Rattle.file.proofs.Tables.{Decided, passes, stops, decide, first_between, by_zero, by_number}
use Rattle.file.proofs.Markers.{marked_number}
use Rattle.file.proofs.Accepted.{good_length}
use Rattle.safe.specs.V3.{v3, v3_edition, stretched_v3}
use Rattle.safe.specs.Answers.{refusal_number, answer_number, reported}
use Rattle.safe.specs.Calls.{salt_in, iter_in, blocks_in, Reports}
use Rattle.safe.specs.Steps.{early_reading, Ready, state_under, Decrypts, verdict_of, Settles, settled_under, opened_by}
use Rattle.safe.specs.declared.Refusal.{Refusal}
use Rattle.safe.specs.declared.Refusal.TheVariants.{Length, Passphrase, Room, Tag, Floor, Ceiling, Marker, Check, Body, Block}
use Rattle.safe.specs.declared.Reading.{Reading}
use Rattle.safe.specs.declared.decrypt.Decrypted.{Decrypted}

pub positive : (x : Refusal) → 1 ≤ refusal_number x
positive Length = lit≤ tt
positive Passphrase = lit≤ tt
positive Room = lit≤ tt
positive Tag = lit≤ tt
positive Floor = lit≤ tt
positive Ceiling = lit≤ tt
positive Marker = lit≤ tt
positive Check = lit≤ tt
positive Body = lit≤ tt
positive Block = lit≤ tt

-- a refusal leaves zeros
refused_memory : (n k c b : ℕ) → zeros n ≡ workspace_of n (refused k c b)
unfolding workspace_of refused
refused_memory n k c b = ap zeros (sym (sub-zero n))

no_body : (k c b : ℕ) → (refused k c b).body ≡ []
unfolding refused
no_body k c b = refl

pub refused_reports : (k c b : ℕ) {report : Report} {before after : List ℕ} {r : Reading} → report ≡ refused k c b → reported r [] ≡ refused k c b
    → after ≡ zeros (length before) → Reports report before after r
refused_reports k c b {report = report} {before = before} {r = r} e a m =
    record {
      answer = ap (reported r) (ap (λ (x : Report). x.body) e ∙ no_body k c b) ∙ a ∙ sym e;
      memory = m ∙ refused_memory (length before) k c b ∙ ap (workspace_of (length before)) (sym e);
    }

-- equal reports
pub reports_as : {x y : Report} {before after : List ℕ} {r : Reading} → y ≡ x → Reports x before after r → Reports y before after r
reports_as {before = before} {r = r} e p =
    record {
      answer = ap (λ (z : Report). reported r z.body) e ∙ p.answer ∙ sym e;
      memory = p.memory ∙ ap (workspace_of (length before)) (sym e);
    }

-- the early tests
module _ (file pass : List ℕ) (ceiling room : ℕ) where
  abbrev stretched : Stretched
  stretched = stretched_v3 pass (split file).salt (number_low (split file).iter)

  early_refused : (x : Refusal) {t : Result Unit Refusal} → answer_number t ≡ early_reading file pass ceiling room → t ≡ Err x → reading_of v3_edition file pass ceiling room ≡ refused (refusal_number x) 0 0
  unfolding reading_of early_tests v3
  early_refused x e f =
      let g : refusal_number x ≡ early_reading file pass ceiling room = sym (ap answer_number f) ∙ e in
      by_number (λ (k : ℕ). refused k 0 0) (checked v3_edition (split file) stretched ((length file - 200) / 16)) 7
      (early_tests v3 (split file) ((length file - 200) / 16) file pass ceiling room) refl g (positive x)

  early_passed : {t : Result Unit Refusal} → answer_number t ≡ early_reading file pass ceiling room → t ≡ Ok tt → reading_of v3_edition file pass ceiling room ≡ checked v3_edition (split file) stretched ((length file - 200) / 16)
  unfolding reading_of early_tests v3
  early_passed e f =
      let g : 0 ≡ early_reading file pass ceiling room = sym (ap answer_number f) ∙ e in
      by_zero (λ (k : ℕ). refused k 0 0) (checked v3_edition (split file) stretched ((length file - 200) / 16)) 7
      (early_tests v3 (split file) ((length file - 200) / 16) file pass ceiling room) refl g refl

pub reads_refused : (file pass before : List ℕ) (ceiling : ℕ) (x : Refusal) {t : Result Unit Refusal} {after : List ℕ} {r : Reading}
    → answer_number t ≡ early_reading file pass ceiling (length before) → t ≡ Err x → reported r [] ≡ refused (refusal_number x) 0 0
    → after ≡ zeros (length before) → Reports (reading_of v3_edition file pass ceiling (length before)) before after r
reads_refused file pass before ceiling x e f a m =
    refused_reports (refusal_number x) 0 0 (early_refused file pass ceiling (length before) x e f) a m

pub reads_passed : (file pass before zeroed : List ℕ) (ceiling : ℕ) {t : Result Unit Refusal} {after : List ℕ} {r : Reading}
    → answer_number t ≡ early_reading file pass ceiling (length before) → t ≡ Ok tt → zeroed ≡ zeros (length before)
    → Reports (opened_by pass file) zeroed after r
    → Reports (reading_of v3_edition file pass ceiling (length before)) before after r
reads_passed file pass before zeroed ceiling {after = after} {r = r} e f z x =
    let p = early_passed file pass ceiling (length before) e f in
    let l : length zeroed ≡ length before = ap length z ∙ length-replicate (length before) 0 in
    record {
      answer = ap (λ (y : Report). reported r y.body) p ∙ x.answer ∙ sym p;
      memory = x.memory ∙ ap₂ workspace_of l (sym p);
    }

-- the marker, sought in the rest of the file
pub marker_from : (file : List ℕ) (n : ℕ) {r : Option ℕ} → length file ≡ 200 + 16 * n
    → r ≡ marked_at (length (take (length file - 152) (drop 152 file)) / 16) (take (length file - 152) (drop 152 file))
    → option_eq eqb r (Some n) ≡ eqb (first_marker (n + 3) (drop 152 file)) n
marker_from file n h e =
    let d = length-drop 152 file in
    let t = take_all (length file - 152) (drop 152 file) (omega arith) in
    let k : length (take (length file - 152) (drop 152 file)) / 16 ≡ n + 3 = ap (λ (l : List ℕ). length l / 16) t ∙ omega arith in
    ap (λ (r : Option ℕ). option_eq eqb r (Some n)) (e ∙ ap₂ marked_at k t) ∙ marked_number (n + 3) n (drop 152 file) (omega arith)

-- the body's verdict is the report
module _ (K L mac : List ℕ) (c blocks : ℕ) (body : List ℕ) where
  abbrev comes_to : Bool → Bool → Report
  comes_to a b = cond (not a) (refused 9 c blocks) (cond (not b) (refused 9 c blocks) (accepted v3_edition K L c blocks body))

  abbrev verdict : Bool → Bool → Result Counts Refusal
  verdict a b = cond a (cond b (Ok (record { headers = headers_of body; records = records_of body })) (Err Body)) (Err Body)

  verdict_is_no : (x : Refusal) → verdict_of L mac body ≡ Err x → settled v3_edition K L mac c blocks body ≡ refused (refusal_number x) c blocks
  unfolding verdict_of settled body_tests v3
  verdict_is_no x e = go (is_well_formed body) (same (hmac_of L (covered_of body)) mac) e
    where
      go : (a b : Bool) → verdict a b ≡ Err x → comes_to a b ≡ refused (refusal_number x) c blocks
      go true true e = absurd (let z : ◌≡◌ {A = ℕ} 0 1 = cc in omega arith)
      go true false e = let f : Body ≡ x = cc in ap (λ (y : Refusal). refused (refusal_number y) c blocks) f
      go false b e = let f : Body ≡ x = cc in ap (λ (y : Refusal). refused (refusal_number y) c blocks) f

  verdict_is_yes : (n : Counts) → verdict_of L mac body ≡ Ok n
      → (settled v3_edition K L mac c blocks body ≡ accepted v3_edition K L c blocks body) × (n.headers ≡ headers_of body) × (n.records ≡ records_of body)
  unfolding verdict_of settled body_tests v3
  verdict_is_yes n e = go (is_well_formed body) (same (hmac_of L (covered_of body)) mac) e
    where
      go : (a b : Bool) → verdict a b ≡ Ok n → (comes_to a b ≡ accepted v3_edition K L c blocks body) × (n.headers ≡ headers_of body) × (n.records ≡ records_of body)
      go true true e = (refl, cc, cc)
      go true false e = absurd (let z : ◌≡◌ {A = ℕ} 0 1 = cc in omega arith)
      go false b e = absurd (let z : ◌≡◌ {A = ℕ} 0 1 = cc in omega arith)

  -- a report's body is the whole body or none of it, and its counts are those that were handed in
  pub settled_parts : let t = settled v3_edition K L mac c blocks body in (length t.body ≤ length body) × (t.compressions ≡ c) × (t.blocks ≡ blocks)
  unfolding settled body_tests accepted refused
  settled_parts = go (v3_edition.is_well_formed body) (same (v3.hmac L (v3_edition.covered body)) mac)
    where
      go : (a b : Bool) → let t = comes_to a b in (length t.body ≤ length body) × (t.compressions ≡ c) × (t.blocks ≡ blocks)
      go true true = (omega arith, refl, refl)
      go true false = (omega arith, refl, refl)
      go false b = (omega arith, refl, refl)

-- what `settle` answers: of any memory, keys and counts
module _ (d : Decrypted) (mac : List ℕ) (c : ℕ) (body : List ℕ) {j : Result Counts Refusal} (v : j ≡ verdict_of d.keys.l mac body) where
  pub settled_no : (x : Refusal) → j ≡ Err x → {after : List ℕ} {r : Reading} → reported r [] ≡ refused (refusal_number x) c d.blocks → after ≡ zeros (length body)
      → Settles d mac c body after r
  settled_no x f a z =
      record { reports = refused_reports (refusal_number x) c d.blocks (verdict_is_no d.keys.k d.keys.l mac c d.blocks body x (sym v ∙ f)) a z }

  pub settled_yes : (q : Counts) → j ≡ Ok q
      → Settles d mac c body body (record { outcome = Ok (record { keys = d.keys; counts = q }); compressions = c; blocks = d.blocks })
  unfolding reported accepted v3 workspace_of
  settled_yes q f =
      let y = verdict_is_yes d.keys.k d.keys.l mac c d.blocks body q (sym v ∙ f) in
      let e : (settled v3_edition d.keys.k d.keys.l mac c d.blocks body).body ≡ body = ap (λ (r : Report). r.body) y.0 in
      let r : Reading = record { outcome = Ok (record { keys = d.keys; counts = q }); compressions = c; blocks = d.blocks } in
      let z : length body - length body ≡ 0 = omega arith in
      record {
        reports = record {
          answer = ap (reported r) e
              ∙ (λ i. record { number = 0; key_k = d.keys.k; key_l = d.keys.l; headers = y.1 i; records = y.2 i; compressions = c; blocks = d.blocks; body = body })
              ∙ sym y.0;
          memory = sym (append-nil body) ∙ ap (λ (n : ℕ). body ++ zeros n) (sym z) ∙ ap (λ (b : List ℕ). b ++ zeros (length body - length b)) (sym e);
        };
      }

-- a memory with more zeros behind it
pub longer : (t : Report) (n m : ℕ) → length t.body ≤ n → n ≤ m → workspace_of n t ++ zeros (m - n) ≡ workspace_of m t
unfolding workspace_of
longer t n m h k =
    let e : n - length t.body + (m - n) ≡ m - length t.body = omega arith in
    append_assoc t.body (zeros (n - length t.body)) (zeros (m - n))
    ∙ ap (λ (z : List ℕ). t.body ++ z) (replicate-append-replicate (n - length t.body) (m - n) 0 ∙ ap zeros e)

-- decrypted into the front of a workspace of zeros, and settled there
pub unlocked : (file P' w mac : List ℕ) (c : ℕ) {d : Decrypted} {before after rest : List ℕ} {r : Reading} → Ready file before → Decrypts file P' w d
    → length w ≡ length file - 200 → mac ≡ (split file).mac → Settles d mac c w after r → rest ≡ drop (length w) before
    → Reports (settled_under file P' c) before (after ++ rest) r
unlocked file P' w mac c {d} {before} {after} {rest} {r} ready is_decrypted long m s e =
    let t = settled v3_edition d.keys.k d.keys.l mac c d.blocks w in
    let same_report : t ≡ settled_under file P' c =
    ap₂ (λ (K L : List ℕ). settled v3_edition K L mac c d.blocks w) is_decrypted.k is_decrypted.l
    ∙ ap₂ (λ (x : List ℕ) (n : ℕ). settled v3_edition (key_k v3 (split file) P') (key_l v3 (split file) P') x c n w) m is_decrypted.count
    ∙ ap (settled v3_edition (key_k v3 (split file) P') (key_l v3 (split file) P') (split file).mac c (state_under file P').count) is_decrypted.text in
    let holds : length w ≤ length before = omega (arith, ready.holds) in
    let zs : rest ≡ zeros (length before - length w) = e ∙ ap (drop (length w)) ready.blank ∙ drop_same 0 (length w) (length before) holds in
    reports_as (sym same_report) (record {
      answer = s.reports.answer;
      memory = ap₂ (λ (x y : List ℕ). x ++ y) s.reports.memory zs
          ∙ longer t (length w) (length before) (settled_parts d.keys.k d.keys.l mac c d.blocks w).0 holds;
    })

-- the stretcher's states are the edition's
pub stretched_is : (pass salt : List ℕ) (n : ℕ) {st c : Stretcher} {i : ℕ} → st ≡ stretched_of i (start_of pass salt) → i ≡ n → c ≡ step_of st
    → (key_of st ≡ (stretched_v3 pass salt n).key) × (key_of c ≡ (stretched_v3 pass salt n).check) × (c.count ≡ (stretched_v3 pass salt n).count)
unfolding stretched_v3
stretched_is pass salt n e f g =
    let h = e ∙ ap (λ (m : ℕ). stretched_of m (start_of pass salt)) f in
    let k = g ∙ ap step_of h in
    (ap key_of h, ap key_of k, ap (λ (x : Stretcher). x.count) k)

-- of a file, whose salt is copied
pub opened_states : (file pass : List ℕ) {salt : List ℕ} {s₀ s c : Stretcher} {i : ℕ} → length file ≡ 200 + 16 * blocks_in file
    → salt ≡ copied (zeros 32) (take 32 (drop 4 file)) → s₀ ≡ start_of pass salt → i ≡ iter_in file → s ≡ stretched_of i s₀ → c ≡ step_of s
    → let t = stretched_v3 pass (salt_in file) (iter_in file) in (key_of s ≡ t.key) × (key_of c ≡ t.check) × (c.count ≡ t.count)
unfolding split
opened_states file pass {i = i} h a b e f g =
    let d = length-drop 4 file in
    let is_salt = a ∙ copied_whole 32 (take 32 (drop 4 file)) (length-take-le 32 (drop 4 file) (omega arith)) in
    stretched_is pass (take 32 (drop 4 file)) (iter_in file) (f ∙ ap (stretched_of i) (b ∙ ap (start_of pass) is_salt)) e g

-- the check passed, or not
module _ (file : List ℕ) (s : Stretched) where
  pub checked_passed : same s.check (split file).check ≡ true → checked v3_edition (split file) s (blocks_in file) ≡ settled_under file s.key s.count
  unfolding checked
  checked_passed e = rw e

  pub checked_failed : same s.check (split file).check ≡ false → checked v3_edition (split file) s (blocks_in file) ≡ refused 8 s.count 0
  unfolding checked
  checked_failed e = rw e

-- what the early tests leave for the opening
pub ready : (file pass before zeroed : List ℕ) (ceiling : ℕ) {t : Result Unit Refusal} → answer_number t ≡ early_reading file pass ceiling (length before) → t ≡ Ok tt
    → zeroed ≡ zeros (length before) → Ready file zeroed
unfolding early_tests
ready file pass before zeroed ceiling e f z = go (decide (λ (n : ℕ). n) 0 tests) (sym (ap answer_number f) ∙ e)
  where
    tests : List Test
    tests = early_tests v3 (split file) (blocks_in file) file pass ceiling (length before)

    go : Decided (λ (n : ℕ). n) tests 0 → 0 ≡ early_reading file pass ceiling (length before) → Ready file zeroed
    go (passes t q) g =
        let l = good_length (length file) t.0 in
        let r = ltb-false (length before) (length file - 200) t.1.1.0 in
        let n : length zeroed ≡ length before = ap length z ∙ length-replicate (length before) 0 in
        record { whole = omega arith; holds = omega arith; short = omega arith; blank = z ∙ ap zeros (sym n) }
    go (stops k h q) g = let b = first_between 1 7 k {ts = tests} refl h in absurd (omega arith)
