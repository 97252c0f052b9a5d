-- No second answer: what a call returns and leaves in lent memory is one thing for each input, since its contract is equations.
use Prim.Native.Nat.{ℕ}
use mathlib.Core.Path.{◌≡◌, sym, ◌∙◌}
use mathlib.Core.Bool.{Bool}
use mathlib.Core.List.{List}
use Rattle.fields.specs.Stored.{Stored}
use Rattle.talcfeather.specs.Read.{TalcRead}
use Rattle.talcfeather.specs.Write.{TalcWrite}
use Rattle.talcfeather.specs.Walk.{TalcWalk}
use Rattle.talcfeather.specs.Append.{TalcAppend}
use Rattle.talcfeather.specs.Judge.{TalcJudge}
use Rattle.talcfeather.specs.Find.{TalcFind}
use Rattle.talcfeather.specs.Trace.{TalcReplay, TalcStanding}
use Rattle.talcfeather.specs.Table.{TalcExport, TalcImport, TalcRow}

module _ {n n' : ℕ} {a a' : List ℕ} where
  pub walk_one : (body : List ℕ) (place : ℕ) (r : Bool) → TalcWalk body place r n a → TalcWalk body place r n' a' → (n ≡ n') × (a ≡ a')
  walk_one body place r x y = (x.is_number ∙ sym y.is_number, x.is_answer ∙ sym y.is_answer)

  pub append_one : (before : List ℕ) (place : ℕ) (f : Stored) (b b' : List ℕ)
      → TalcAppend before place f n b a → TalcAppend before place f n' b' a' → (n ≡ n') × (b ≡ b') × (a ≡ a')
  append_one before place f b b' x y =
      (x.is_number ∙ sym y.is_number, x.is_buffer ∙ sym y.is_buffer, x.is_next ∙ sym y.is_next)

  pub judge_one : (body : List ℕ) → TalcJudge body n a → TalcJudge body n' a' → (n ≡ n') × (a ≡ a')
  judge_one body x y = (x.is_number ∙ sym y.is_number, x.is_answer ∙ sym y.is_answer)

  pub find_one : (body uuid : List ℕ) → TalcFind body uuid n a → TalcFind body uuid n' a' → (n ≡ n') × (a ≡ a')
  find_one body uuid x y = (x.is_number ∙ sym y.is_number, x.is_answer ∙ sym y.is_answer)

  pub read_one : (file passphrase : List ℕ) (ceiling : ℕ) (before w w' : List ℕ)
      → TalcRead file passphrase ceiling before n w a → TalcRead file passphrase ceiling before n' w' a' → (n ≡ n') × (w ≡ w') × (a ≡ a')
  read_one file passphrase ceiling before w w' x y =
      (x.is_number ∙ sym y.is_number, x.is_workspace ∙ sym y.is_workspace, x.is_answer ∙ sym y.is_answer)

  pub write_one : (passphrase salt : List ℕ) (iter : ℕ) (k l iv body before : List ℕ)
      → TalcWrite passphrase salt iter k l iv body before n a → TalcWrite passphrase salt iter k l iv body before n' a' → (n ≡ n') × (a ≡ a')
  write_one passphrase salt iter k l iv body before x y =
      (x.is_number ∙ sym y.is_number, x.is_output ∙ sym y.is_output)

  pub replay_one : (before trace s s' : List ℕ) → TalcReplay before trace n s a → TalcReplay before trace n' s' a' → (n ≡ n') × (s ≡ s') × (a ≡ a')
  replay_one before trace s s' x y =
      (x.is_number ∙ sym y.is_number, x.is_state ∙ sym y.is_state, x.is_answer ∙ sym y.is_answer)

  pub standing_one : (state uuid : List ℕ) → TalcStanding state uuid n a → TalcStanding state uuid n' a' → (n ≡ n') × (a ≡ a')
  standing_one state uuid x y = (x.is_number ∙ sym y.is_number, x.is_answer ∙ sym y.is_answer)

  pub export_one : (body : List ℕ) (t : ℕ) (before z z' : List ℕ) → TalcExport body t before n z a → TalcExport body t before n' z' a' → (n ≡ n') × (z ≡ z') × (a ≡ a')
  export_one body t before z z' x y =
      (x.is_number ∙ sym y.is_number, x.is_output ∙ sym y.is_output, x.is_answer ∙ sym y.is_answer)

  pub import_one : (table : List ℕ) → TalcImport table n a → TalcImport table n' a' → (n ≡ n') × (a ≡ a')
  import_one table x y = (x.is_number ∙ sym y.is_number, x.is_answer ∙ sym y.is_answer)

  pub row_one : (table : List ℕ) (row : ℕ) → TalcRow table row n a → TalcRow table row n' a' → (n ≡ n') × (a ≡ a')
  row_one table row x y = (x.is_number ∙ sym y.is_number, x.is_answer ∙ sym y.is_answer)
