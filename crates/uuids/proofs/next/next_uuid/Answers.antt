-- `uuids::next::next_uuid` meets its contract: the loop keeps that no UUID was passed (Seeks), and the place grows at each turn.
use mathlib.Core.Path.{◌≡◌, ap, ◌∙◌}
use mathlib.Core.Bool.{false}
use native.Mathlib.Omega.{arith}
use Rattle.fields.specs.Stored.{room_of}
use Rattle.uuids.specs.Uuids.{is_uuid_at}
use Rattle.uuids.proofs.Steps.{seeks_over, seeks_hit, seeks_next, is_one, other_length, other_kind}
use Rattle.uuids.proofs.next.next_uuid.Goals as goal
use Rattle.uuids.proofs.next.next_uuid.Goals.{else-body-at-eq1-via-then-body-at-eq1+else-len-eq16, else-body-at-eq1-via-else-body-at-eq1}

pub returns-then-n-at : goal.returns-then-n-at
returns-then-n-at c =
    let r = c.room-room.ensures ∙ ap room_of c.word_at-len.ensures in
    seeks_over c.args.body.now c.args.from c.loop-at.at c.loop-at.invariant (omega arith)

pub returns-then-len-eq16 : goal.returns-then-len-eq16
returns-then-len-eq16 c =
    let s = c.args.body.now in
    let at = c.loop-at.at in
    let r = c.room-room.ensures ∙ ap room_of c.word_at-len.ensures in
    seeks_hit s c.args.from at c.loop-at.invariant (omega arith) (is_one s at _ c.word_at-len.ensures c.if-body-at-eq1.true c.if-len-eq16.true)

pub loop-at-preserved : goal.loop-at-preserved
loop-at-preserved c =
    let s = c.args.body.now in
    let at = c.loop-at.at in
    let r = c.room-room.ensures ∙ ap room_of c.word_at-len.ensures in
    let n : is_uuid_at s at ≡ false = elim c.else-body-at-eq1.branch [
      | else-body-at-eq1-via-then-body-at-eq1+else-len-eq16 w ↦ other_length s at _ c.word_at-len.ensures w.if-len-eq16.false
      | else-body-at-eq1-via-else-body-at-eq1 w ↦ other_kind s at w.if-body-at-eq1.false
    ] in
    rw r (seeks_next s c.args.from at c.loop-at.invariant (omega arith) n)

pub returns-else-n-at-ge16 : goal.returns-else-n-at-ge16
returns-else-n-at-ge16 c = seeks_over c.args.body.now c.args.from c.loop-at.at c.loop-at.invariant (omega arith)

pub returns-after-loop-at : goal.returns-after-loop-at
returns-after-loop-at c = seeks_over c.args.body.now c.args.from c.loop-at.at c.loop-at.invariant (omega arith)
