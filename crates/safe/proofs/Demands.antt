-- The demands upon reading and writing, each under the sentence that asks for it. A call is taken by its contract alone (`Reads` and `Writes`, Calls.antt), so what
-- is said of a call holds of every answer and every memory that meet it. `reading_of v3_edition` and `writing_of v3_edition` are the reports that these contracts cite.
use Prim.Native.Nat.{ℕ, ◌+◌, ◌-◌, ◌/◌, ◌<◌, ◌≤◌}
use mathlib.Core.Path.{◌≡◌, refl, sym, ap, ◌∙◌, subst}
use mathlib.Core.Logic.{◌↔◌}
use mathlib.Core.Bool.{Bool, true, false}
use mathlib.Core.List.{List, [], ◌∷◌, ◌++◌, map}
use native.Mathlib.Omega.{arith}
use lib.ListN.{length, take, drop}
use Rattle.words.specs.Numbers.{Bytes, number_low, bytes_low}
use Rattle.words.specs.Slices.{zeros}
use Rattle.std.specs.Prelude.{Result}
use Rattle.sha256.specs.Sha256.{sha256}
use Rattle.sha256.specs.Hmac.{hmac_of}
use Rattle.stretch.specs.Stretch.{start_of, step_of, stretched_of, key_of}
use Rattle.stretch.proofs.Counts.{step_key}
use Rattle.chain.specs.Modes.{ecb_e, cbc_e, cbc_d, encrypted, decrypted}
use Rattle.chain.specs.Twofish.{twofish_cipher}
use Rattle.body.specs.Sections.{covered}
use Rattle.body.specs.WellFormed.{WellFormed}
use Rattle.body.specs.Decision.{is_well_formed}
use Rattle.body.proofs.Decided.{counts_are, well_formed}
use Rattle.file.specs.Layout.{split, join, glue, listed, tag, marker}
use Rattle.file.specs.Refusals.{Test, First}
use Rattle.file.specs.Description.{IsSafe, wrapped, cbc, parts_of, file_of}
use Rattle.file.specs.Reading.{Report, refused, workspace_of, early_tests, reading_of, Answers}
use Rattle.file.specs.Writing.{Writing, write_tests}
use Rattle.file.proofs.Accepted as Accepted
use Rattle.file.proofs.Written as Written
use Rattle.file.proofs.Passed.{Late}
use Rattle.file.proofs.Alike.{count_decrypted, compressed, matched, alike_matched, alike_unmatched}
use Rattle.file.proofs.Ends as Ends
use Rattle.file.proofs.Nine.{nine}
use Rattle.file.proofs.Prefix.{no_prefix}
use Rattle.safe.specs.V3.{v3, v3_edition, stretched_v3}
use Rattle.safe.specs.Answers.{answer_number, k_given, l_given, header_count, record_count, reported}
use Rattle.safe.specs.Steps.{Decrypts, Settles}
use Rattle.safe.specs.declared.decrypt.Decrypted.{Decrypted}
use Rattle.safe.specs.declared.Reading.{Reading}
use Rattle.safe.specs.declared.Refusal.{Refusal}
use Rattle.safe.proofs.V3Laws.{v3_laws}
use Rattle.safe.specs.Calls.{salt_in, iter_in, iv_in, encrypted_in, mac_in, blocks_in, stretched_in, key_k_in, key_l_in, last_state, Matching, number_of, OneToFour, OneToSeven, Reads, Accepts, Writes}
use Rattle.safe.proofs.Contracts.{one_report, number_is, k_is, l_is, headers_are, records_are, written_told}
use Rattle.safe.proofs.Acceptance.{is_read, accepts_exactly}
use Rattle.safe.proofs.Settled.{same_answer, state_held}
use Rattle.safe.proofs.Stretching.{matching}
use Rattle.safe.proofs.Instances.{thirteen, instances, below_floor}

-- two tests that hold of the same
true_alike : (a b : Bool) → (a ≡ true → b ≡ true) × (b ≡ true → a ≡ true) → a ≡ b
true_alike true true h = refl
true_alike true false h = sym (h.0 refl)
true_alike false true h = h.1 refl
true_alike false false h = refl

-- none of 1 to 7
late : {n : ℕ} → (OneToSeven n → ⊥) → Late n
late h k a b e = h (omega arith, omega arith)

-- ==== DEMAND 1. On any bytes of any length, the answer is an acceptance or one of 1 to 9. Refused: keys and counts of header fields and records zero,
-- every workspace byte zero, for 3 too.

-- of the report, where `refused` has its number and the two counts of work, and all else zero
demand1 : (file passphrase : List ℕ) (ceiling room : ℕ) → let t = reading_of v3_edition file passphrase ceiling room in
    (t.number ≤ 9) × ((t.number ≡ 0 → ⊥) → (t ≡ refused t.number t.compressions t.blocks) × (workspace_of room t ≡ zeros room))
demand1 file passphrase ceiling room = (
  Ends.nine_most v3_edition file passphrase ceiling room,
  λ h. (Ends.bare v3_edition file passphrase ceiling room h, Ends.zeros_left v3_edition file passphrase ceiling room h),
)

-- of every call of `read`
module _ {file passphrase before after : List ℕ} {ceiling : ℕ} {r : Reading} (c : Reads file passphrase ceiling before after r) where
  pub demand1_number : number_of r ≤ 9
  demand1_number = rw (number_is c.reports) (demand1 file passphrase ceiling (length before)).0

  pub demand1_refused : (number_of r ≡ 0 → ⊥)
      → (k_given r.outcome ≡ zeros 32) × (l_given r.outcome ≡ zeros 32) × (header_count r.outcome ≡ 0) × (record_count r.outcome ≡ 0) × (after ≡ zeros (length before))
  unfolding refused
  demand1_refused h =
      let d = (demand1 file passphrase ceiling (length before)).1 (λ e. h (number_is c.reports ∙ e)) in (
        k_is c.reports ∙ ap (λ (t : Report). t.key_k) d.0,
        l_is c.reports ∙ ap (λ (t : Report). t.key_l) d.0,
        headers_are c.reports ∙ ap (λ (t : Report). t.headers) d.0,
        records_are c.reports ∙ ap (λ (t : Report). t.records) d.0,
        c.reports.memory ∙ d.1,
      )

-- Writing refused: all zero.
pub demand1_write : {passphrase salt : List ℕ} {iter : ℕ} {K L iv body before after : List ℕ} {r : Result Unit Refusal} → Writes passphrase salt iter K L iv body before after r
    → (answer_number r ≡ 0 → ⊥) → after ≡ zeros (length before)
demand1_write {passphrase} {salt} {iter} {K} {L} {iv} {body} {before} c h =
    c.output ∙ (Ends.write_told v3_edition passphrase salt iter K L iv body (length before) (λ e. h (c.number ∙ e))).1

-- ==== DEMAND 2. The reader accepts exactly the files that the format describes.

-- The description is `IsSafe v3`. Its body is well formed by document 01's sentence, and its HMAC covers the data bytes of all fields in order:
pub body_described : (body data_bytes : List ℕ) → v3.Body body data_bytes ↔ ((w : WellFormed body) × (covered w.fields ≡ data_bytes))
unfolding v3
body_described body data_bytes = (λ w. w, λ w. w)

-- and its file is the table's parts, one after the other.
pub file_described : {passphrase file salt : List ℕ} {iter : ℕ} {K L iv body : List ℕ} (z : IsSafe v3 passphrase file salt iter K L iv body)
    → let P' = key_of (stretched_of iter (start_of passphrase salt)) in
    file
    ≡ glue
    (tag
    ∷ salt
    ∷ bytes_low 4 iter
    ∷ sha256 P'
    ∷ encrypted (ecb_e twofish_cipher P') 4 (zeros 16) (K ++ L)
    ∷ iv
    ∷ encrypted (cbc_e twofish_cipher K) (length body / 16) iv body
    ∷ marker
    ∷ hmac_of L z.covered
    ∷ [])
unfolding v3 stretched_v3 file_of parts_of join listed wrapped cbc
file_described {passphrase} {file} {salt} {iter} z = rw (← (step_key (stretched_of iter (start_of passphrase salt)))) z.is_file

-- Accepted with K, L and a body exactly when the file is a safe of that body with those keys, ITER is at most the ceiling and the workspace holds the body.
demand2 : (file passphrase : List ℕ) (ceiling room : ℕ) → Bytes file → (K L body : List ℕ) → Answers (reading_of v3_edition file passphrase ceiling room) K L body
    ↔ ((salt : List ℕ) × (iter : ℕ) × (iv : List ℕ) × IsSafe v3 passphrase file salt iter K L iv body × (iter ≤ ceiling) × (length body ≤ room))
demand2 file passphrase ceiling room bytes K L body = Accepted.demand2 v3_edition v3_laws file passphrase ceiling room bytes K L body

-- So a call's number is 0 exactly when the file is a safe of some body, with some values, ITER is at most the ceiling and the workspace holds the body.
pub demand2_accepted : {file passphrase before after : List ℕ} {ceiling : ℕ} {r : Reading} → Reads file passphrase ceiling before after r
    → (number_of r ≡ 0)
    ↔ ((salt : List ℕ) × (iter : ℕ) × (K L iv body : List ℕ) × IsSafe v3 passphrase file salt iter K L iv body × (iter ≤ ceiling) × (length body ≤ length before))
demand2_accepted {file} {passphrase} {before} {ceiling = ceiling} c = (
  λ h.
      let s = is_read c h in
      ((split file).salt, number_low (split file).iter, _, _, (split file).iv, _, s.is_safe, s.under, s.fits),
  λ z. number_is c.reports ∙ ((demand2 file passphrase ceiling (length before) c.bytes z.2 z.3 z.5).1 (z.0, z.1, z.4, z.6, z.7, z.8)).accepts,
)

module _ {file passphrase before after : List ℕ} {ceiling : ℕ} {r : Reading} (c : Reads file passphrase ceiling before after r) (K L body : List ℕ) where
  -- With these keys and this body, exactly when it is a safe of that body with those keys; and then the workspace holds the body, and zeros after it.
  pub demand2_call : Accepts file before after r K L body
      ↔ ((salt : List ℕ) × (iter : ℕ) × (iv : List ℕ) × IsSafe v3 passphrase file salt iter K L iv body × (iter ≤ ceiling) × (length body ≤ length before))
  demand2_call =
      let a = accepts_exactly c K L body in
      let d = demand2 file passphrase ceiling (length before) c.bytes K L body in
      (λ h. d.0 (a.0 h), λ z. a.1 (d.1 z))

  -- Counts of header fields and records (ENDs not counted as fields).
  pub demand2_counts : Accepts file before after r K L body → (w : WellFormed body)
      → (header_count r.outcome ≡ length w.header) × (record_count r.outcome ≡ length w.records)
  unfolding v3
  demand2_counts h w =
      let a = (accepts_exactly c K L body).0 h in
      let f = Ends.fields_counted v3_edition file passphrase ceiling (length before) a.accepts in
      let n = counts_are body w in (
        headers_are c.reports ∙ f.0 ∙ ap v3_edition.headers a.gives_body ∙ n.0,
        records_are c.reports ∙ f.1 ∙ ap v3_edition.records a.gives_body ∙ n.1,
      )

  -- Writing an accepted file's body again with its own passphrase, salt, ITER, keys and initial vector, into an output that holds it, gives the same file,
  -- byte for byte, then zeros.
  pub demand2_again : Accepts file before after r K L body → {output output' : List ℕ} {r' : Result Unit Refusal}
      → Writes passphrase (salt_in file) (iter_in file) K L (iv_in file) body output output' r' → length file ≤ length output
      → (answer_number r' ≡ 0) × (output' ≡ file ++ zeros (length output - length file))
  unfolding split
  demand2_again h {output} w fits =
      let a = (accepts_exactly c K L body).0 h in
      let e = Written.write_again v3_edition v3_laws file passphrase ceiling (length before) c.bytes K L body a (length output) fits in
      (w.number ∙ ap (λ (x : Writing). x.number) e, w.output ∙ ap (λ (x : Writing). x.output) e)

module _ {passphrase salt : List ℕ} {iter : ℕ} {K L iv body before after : List ℕ} {r : Result Unit Refusal} (c : Writes passphrase salt iter K L iv body before after r) where
  -- The writer accepts exactly what is a safe of some file and fits; and then the output is that file, and zeros to its end.
  pub demand2_written : (answer_number r ≡ 0) ↔ ((file : List ℕ) × IsSafe v3 passphrase file salt iter K L iv body × (length body + 200 ≤ length before))
  demand2_written =
      let e = Written.write_exactly v3_edition v3_laws passphrase salt iter K L iv body (length before) c.values in
      (λ h. e.0 (sym c.number ∙ h), λ z. c.number ∙ e.1 z)

  module _ (h : answer_number r ≡ 0) where
    pub demand2_output : (file : List ℕ) → IsSafe v3 passphrase file salt iter K L iv body → after ≡ file ++ zeros (length before - (length body + 200))
    demand2_output file z =
        c.output ∙ Written.output_is v3_edition v3_laws passphrase salt iter K L iv body (length before) c.values (sym c.number ∙ h)
        ∙ ap (λ (f : List ℕ). f ++ zeros (length before - (length body + 200))) (sym (Written.file_of_lem v3_edition v3_laws z))

    -- What the writer accepts is read back under the same passphrase, any ceiling not below ITER and any workspace that holds it: same body, same keys.
    pub demand2_back : {ceiling : ℕ} {space space' : List ℕ} {r' : Reading} → Reads (take (length body + 200) after) passphrase ceiling space space' r'
        → iter ≤ ceiling → length body ≤ length space → Accepts (take (length body + 200) after) space space' r' K L body
    demand2_back {ceiling} {space} d under fits =
        (accepts_exactly d K L body).1
        (subst (λ (o : List ℕ). Answers (reading_of v3_edition (take (length body + 200) o) passphrase ceiling (length space)) K L body) (sym c.output)
        (Written.read_back v3_edition v3_laws passphrase salt iter K L iv body (length before) c.values (sym c.number ∙ h) ceiling (length space) under fits))

-- No proper prefix of an accepted file is accepted, under any passphrase, ceiling and workspace: a half-copied file is never taken for a whole one.
pub demand2_prefix : {file passphrase passphrase' before before' after after' : List ℕ} {ceiling ceiling' k : ℕ} {r r' : Reading}
    → Reads file passphrase ceiling before after r → number_of r ≡ 0 → k < length file
    → Reads (take k file) passphrase' ceiling' before' after' r' → number_of r' ≡ 0 → ⊥
demand2_prefix c h short c' h' = no_prefix v3_edition v3_laws _ _ _ _ _ _ _ _ _ _ _ _ _ _ _ _ (is_read c h).is_safe short (is_read c' h').is_safe

-- A file and a passphrase are a safe of one body only, under one set of values.
pub demand2_only : (passphrase file : List ℕ) (salt salt' : List ℕ) (iter iter' : ℕ) (K K' L L' iv iv' body body' : List ℕ)
    → IsSafe v3 passphrase file salt iter K L iv body → IsSafe v3 passphrase file salt' iter' K' L' iv' body'
    → (salt ≡ salt') × (iter ≡ iter') × (K ≡ K') × (L ≡ L') × (iv ≡ iv') × (body ≡ body')
demand2_only = Accepted.only_safe v3_edition v3_laws

-- ==== DEMAND 3. Two readings with equal lengths of file, passphrase and workspace and equal ITER, neither stopped by 1 to 7. Contents of the files, keys,
-- plaintext, ceilings and old workspace bytes are free.
module _ (file file' passphrase passphrase' : List ℕ) (ceiling ceiling' room : ℕ) (bytes : Bytes file) (bytes' : Bytes file')
    (files : length file ≡ length file') (passphrases : length passphrase ≡ length passphrase') (iters : iter_in file ≡ iter_in file')
    (past : OneToSeven (reading_of v3_edition file passphrase ceiling room).number → ⊥) (past' : OneToSeven (reading_of v3_edition file' passphrase' ceiling' room).number → ⊥) where
  -- If both passphrases match their checks (SHA-256 of P' equal to the file's bytes 40 to 71) and both are refused, the reports are equal: number, both
  -- reported counts, and so the workspace.
  demand3_matching : Matching passphrase file → Matching passphrase' file'
      → ((reading_of v3_edition file passphrase ceiling room).number ≡ 0 → ⊥) → ((reading_of v3_edition file' passphrase' ceiling' room).number ≡ 0 → ⊥)
      → reading_of v3_edition file passphrase ceiling room ≡ reading_of v3_edition file' passphrase' ceiling' room
  unfolding split
  demand3_matching m m' n n' =
      alike_matched v3_edition v3_laws file file' passphrase passphrase' ceiling ceiling' room bytes bytes' (late past) (late past') files passphrases iters
      ((matching passphrase file).0 m) ((matching passphrase' file').0 m') n n'

  -- The same if neither matches.
  demand3_unmatching : (Matching passphrase file → ⊥) → (Matching passphrase' file' → ⊥)
      → reading_of v3_edition file passphrase ceiling room ≡ reading_of v3_edition file' passphrase' ceiling' room
  unfolding split
  demand3_unmatching m m' =
      alike_unmatched v3_edition v3_laws file file' passphrase passphrase' ceiling ceiling' room bytes bytes' (late past) (late past') files passphrases iters
      (λ e. m ((matching passphrase file).1 e)) (λ e. m' ((matching passphrase' file').1 e))

-- The same of every two calls: the whole answer and the workspace.
module _ {file file' passphrase passphrase' before before' after after' : List ℕ} {ceiling ceiling' : ℕ} {r r' : Reading}
    (c : Reads file passphrase ceiling before after r) (c' : Reads file' passphrase' ceiling' before' after' r')
    (files : length file ≡ length file') (passphrases : length passphrase ≡ length passphrase') (workspaces : length before ≡ length before')
    (iters : iter_in file ≡ iter_in file') (past : OneToSeven (number_of r) → ⊥) (past' : OneToSeven (number_of r') → ⊥) where
  pub demand3_call_matching : Matching passphrase file → Matching passphrase' file' → (number_of r ≡ 0 → ⊥) → (number_of r' ≡ 0 → ⊥) → (r ≡ r') × (after ≡ after')
  demand3_call_matching m m' n n' =
      one_report c.reports c'.reports
      (demand3_matching file file' passphrase passphrase' ceiling ceiling' (length before) c.bytes c'.bytes files passphrases iters
      (rw (number_is c.reports) at past) (rw (workspaces, ← (number_is c'.reports)) past') m m'
      (rw (number_is c.reports) at n) (rw (workspaces, ← (number_is c'.reports)) n')
      ∙ ap (reading_of v3_edition file' passphrase' ceiling') workspaces) workspaces

  pub demand3_call_unmatching : (Matching passphrase file → ⊥) → (Matching passphrase' file' → ⊥) → (r ≡ r') × (after ≡ after')
  demand3_call_unmatching m m' =
      one_report c.reports c'.reports
      (demand3_unmatching file file' passphrase passphrase' ceiling ceiling' (length before) c.bytes c'.bytes files passphrases iters
      (rw (number_is c.reports) at past) (rw (workspaces, ← (number_is c'.reports)) past') m m'
      ∙ ap (reading_of v3_edition file' passphrase' ceiling') workspaces) workspaces

module _ {file passphrase before after : List ℕ} {ceiling : ℕ} {r : Reading} (c : Reads file passphrase ceiling before after r) where
  abbrev room : ℕ
  room = length before

  abbrev t : Report
  t = reading_of v3_edition file passphrase ceiling room

  abbrev early_tests_lem : List Test
  early_tests_lem = early_tests v3 (split file) (blocks_in file) file passphrase ceiling room

  -- what holds of the report's number and counts holds of the answer's
  told : (P : ℕ → ℕ → ℕ → Type 0) → P t.number t.compressions t.blocks → P (number_of r) r.compressions r.blocks
  unfolding reported
  told P = subst (λ (u : Report). P u.number u.compressions u.blocks) (sym c.reports.answer)

  -- ==== COUNTS. Every reading also reports two counts: SHA-256 compressions spent on stretching and its check, and Twofish blocks decrypted.

  -- They are 0 for refusals 1 to 7.
  pub counts_stopped : OneToSeven (number_of r) → (r.compressions ≡ 0) × (r.blocks ≡ 0)
  counts_stopped =
      told (λ n a b. OneToSeven n → (a ≡ 0) × (b ≡ 0)) (λ h. Ends.early_counts v3_edition file passphrase ceiling room h.0 h.1)

  -- The first is otherwise c + ITER + 1, with c = (passphrase length + 40) / 64 rounded down, plus 1.
  pub counts_compressions : (OneToSeven (number_of r) → ⊥) → r.compressions ≡ (length passphrase + 40) / 64 + 1 + iter_in file + 1
  unfolding split
  counts_compressions =
      told (λ n a b. (OneToSeven n → ⊥) → a ≡ (length passphrase + 40) / 64 + 1 + iter_in file + 1)
      (λ past. Ends.compressions_held v3_edition file passphrase ceiling room (late past) ∙ compressed v3_edition v3_laws file passphrase ceiling room c.bytes (late past))

  -- It is the count that the last step, the check's, hands on.
  pub counts_handed : (OneToSeven (number_of r) → ⊥) → r.compressions ≡ (step_of (stretched_of (iter_in file) (start_of passphrase (salt_in file)))).count
  unfolding v3 stretched_v3 split
  counts_handed =
      told (λ n a b. (OneToSeven n → ⊥) → a ≡ (step_of (stretched_of (iter_in file) (start_of passphrase (salt_in file)))).count)
      (λ past. Ends.compressions_held v3_edition file passphrase ceiling room (late past))

  -- The second is 0 for refusal 8,
  pub counts_eight : number_of r ≡ 8 → r.blocks ≡ 0
  counts_eight = told (λ n a b. n ≡ 8 → b ≡ 0) (Ends.eight_blocks v3_edition file passphrase ceiling room)

  -- else 4 + n.
  pub counts_blocks : (OneToSeven (number_of r) → ⊥) → (number_of r ≡ 8 → ⊥) → r.blocks ≡ 4 + blocks_in file
  counts_blocks =
      told (λ n a b. (OneToSeven n → ⊥) → (n ≡ 8 → ⊥) → b ≡ 4 + blocks_in file)
      (λ past checked. Ends.blocks_held v3_edition file passphrase ceiling room (late past) checked
      ∙ count_decrypted v3_edition v3_laws (split file) (v3.stretched passphrase (salt_in file) (iter_in file)).key (blocks_in file))

  -- The report is the count that the last step hands on, and nothing else sets it or adds to it; unless the reading ends in 1 to 8, the state it belongs to, before any
  -- zeroing, is the whole body decrypted: whatever meets the contract of `decrypt` hands on a memory, keys and a count, and whatever meets that of `settle` makes of them
  -- the answer of the call, and the front of its workspace.
  pub counts_state : (OneToSeven (number_of r) → ⊥) → (number_of r ≡ 8 → ⊥) → {memory left : List ℕ} {d : Decrypted} {r' : Reading}
      → Decrypts file (stretched_in passphrase file) memory d → Settles d (mac_in file) r.compressions memory left r'
      → (memory ≡ decrypted (cbc_d twofish_cipher (key_k_in passphrase file)) (blocks_in file) (iv_in file) (encrypted_in file))
      × (length memory ≡ length file - 200)
      × (d.blocks ≡ 4 + blocks_in file)
      × (r.blocks ≡ d.blocks)
      × (r ≡ r')
      × (after ≡ left ++ zeros (length before - length memory))
  counts_state past checked d e =
      let s = same_answer c (late past) checked d e in
      let h = state_held c (late past) checked d e in
      (h.2, h.3, h.1, ap (λ (x : Reading). x.blocks) s.0 ∙ h.0, s.0, s.1)

  -- ==== CEILINGS. Ceiling 2,047: no file passes; ceiling equal to ITER: passes.
  pub ceiling_below : ceiling < 2048 → number_of r ≡ 0 → ⊥
  unfolding v3
  ceiling_below h =
      told (λ n a b. n ≡ 0 → ⊥) (λ e. absurd (let f = Ends.floor_under v3_edition file passphrase ceiling room e in omega arith))

  pub ceiling_reached : iter_in file ≤ ceiling → number_of r ≡ 6 → ⊥
  unfolding split
  ceiling_reached h = told (λ n a b. n ≡ 6 → ⊥) (Ends.under_ceiling v3_edition file passphrase ceiling room h)

  -- ==== ORDER. Reading and writing by rising number, as far as each uses it.
  pub reading_numbers : map (λ (x : Test). x.number) early_tests_lem ≡ 1 ∷ 2 ∷ 3 ∷ 4 ∷ 5 ∷ 6 ∷ 7 ∷ []
  reading_numbers = Ends.early_numbers v3_edition file passphrase ceiling room

  -- A number of 1 to 7 is that of the first test that fails;
  pub reading_first : (k : ℕ) → 1 ≤ k → k ≤ 7 → (number_of r ≡ k) ↔ First k early_tests_lem
  reading_first k from to = told (λ n a b. (n ≡ k) ↔ First k early_tests_lem) (Ends.first_fails v3_edition file passphrase ceiling room k from to)

  -- past these, 8 is given exactly when SHA-256 of P' differs;
  pub reading_eight : (OneToSeven (number_of r) → ⊥) → (number_of r ≡ 8) ↔ (Matching passphrase file → ⊥)
  reading_eight =
      told (λ n a b. (OneToSeven n → ⊥) → (n ≡ 8) ↔ (Matching passphrase file → ⊥))
      (λ past.
      let e = Ends.eight_exactly v3_edition file passphrase ceiling room (late past) in
      (λ h m. e.0 h ((matching passphrase file).0 m), λ h. e.1 λ m. h ((matching passphrase file).1 m)))

  -- and past that, 9 exactly when the body is not well formed, or its HMAC differs.
  pub reading_nine : (OneToSeven (number_of r) → ⊥) → Matching passphrase file
      → (number_of r ≡ 9) ↔ ((w : WellFormed (last_state passphrase file).done) → hmac_of (key_l_in passphrase file) (covered w.fields) ≡ mac_in file → ⊥)
  unfolding v3 stretched_v3 split
  reading_nine =
      told (λ n a b. (OneToSeven n → ⊥) → Matching passphrase file
      → (n ≡ 9) ↔ ((w : WellFormed (last_state passphrase file).done) → hmac_of (key_l_in passphrase file) (covered w.fields) ≡ mac_in file → ⊥))
      (λ past m.
      let e = nine v3_edition v3_laws file passphrase ceiling room c.bytes (late past) ((matching passphrase file).0 m) in
      (λ h w q. e.0 h (covered w.fields, (w, refl), q), λ h. e.1 λ d. h d.1.0 (ap (hmac_of (key_l_in passphrase file)) d.1.1 ∙ d.2)))

  -- So whatever is past 1 to 8 and not accepted is 9.
  pub reading_else : (OneToSeven (number_of r) → ⊥) → Matching passphrase file → (number_of r ≡ 0 → ⊥) → number_of r ≡ 9
  unfolding refused
  reading_else =
      told (λ n a b. (OneToSeven n → ⊥) → Matching passphrase file → (n ≡ 0 → ⊥) → n ≡ 9)
      (λ past m n. ap (λ (u : Report). u.number)
      (matched v3_edition v3_laws file passphrase ceiling room c.bytes (late past) ((matching passphrase file).0 m) n))

module _ {passphrase salt : List ℕ} {iter : ℕ} {K L iv body before after : List ℕ} {r : Result Unit Refusal} (c : Writes passphrase salt iter K L iv body before after r) where
  -- the tests, of a body that is well formed or not
  abbrev write_tests_lem : Bool → List Test
  write_tests_lem good = write_tests v3 good passphrase iter K iv body (length before)

  pub writing_numbers : (good : Bool) → map (λ (x : Test). x.number) (write_tests_lem good) ≡ 1 ∷ 2 ∷ 3 ∷ 5 ∷ 9 ∷ 10 ∷ []
  writing_numbers good = Ends.write_numbers v3 good passphrase iter K iv body (length before)

  pub writing_first : (good : Bool) → ((good ≡ true) ↔ WellFormed body) → (k : ℕ) → 1 ≤ k → (answer_number r ≡ k) ↔ First k (write_tests_lem good)
  writing_first good is_good k from =
      let w = well_formed body c.values.body_bytes in
      let same = true_alike good (is_well_formed body) (λ h. w.1 (is_good.0 h), λ h. is_good.1 (w.0 h)) in
      rw (c.number, same) (Ends.write_fails v3_edition passphrase salt iter K L iv body (length before) k from)

-- ==== NO SECOND ANSWER. Each public call's contract determines its answer and its lent memory afterwards for every input: no second answer satisfies it.
pub one_read : {file passphrase : List ℕ} {ceiling : ℕ} {before after after' : List ℕ} {r r' : Reading}
    → Reads file passphrase ceiling before after r → Reads file passphrase ceiling before after' r' → (r ≡ r') × (after ≡ after')
one_read c c' = one_report c.reports c'.reports refl refl

pub one_write : {passphrase salt : List ℕ} {iter : ℕ} {K L iv body before after after' : List ℕ} {r r' : Result Unit Refusal}
    → Writes passphrase salt iter K L iv body before after r → Writes passphrase salt iter K L iv body before after' r' → (r ≡ r') × (after ≡ after')
one_write c c' = (written_told _ _ (c.number ∙ sym c'.number), c.output ∙ sym c'.output)

-- Of walk and append: `walk_one` and `append_one` (fields, Numbers.antt); of well-formed and find: `judge_one` and `find_one` (body, Answers.antt).

-- ==== INSTANCES. The thirteen instances in the lines marked * are proved together as a single statement over their list.
pub thirteen_instances : (a b c salt : List ℕ) → length a ≡ 23 → length b ≡ 24 → length c ≡ 1024 → length salt ≡ 32
    → map (λ i. i.0) (thirteen a b c salt) ≡ map (λ i. i.1) (thirteen a b c salt)
thirteen_instances = instances

-- (refusal 5): so it is for ITER 2,047 wherever 1 to 4 do not come first.
pub floor_instance : {file passphrase before after : List ℕ} {ceiling : ℕ} {r : Reading} → Reads file passphrase ceiling before after r
    → take 4 (drop 36 file) ≡ 0xFF ∷ 0x07 ∷ 0x00 ∷ 0x00 ∷ [] → (OneToFour (number_of r) → ⊥) → number_of r ≡ 5
floor_instance {file} {passphrase} {before} {ceiling = ceiling} c e past =
    number_is c.reports ∙ below_floor file passphrase ceiling (length before) e (rw (number_is c.reports) at past)
