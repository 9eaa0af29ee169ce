-- `reply::answering::told` meets its contract: what reading the text answers is told, whatever is told of it.
use Rattle.std.proofs.Common.{◌≤◌, ◌<◌, length}
use Rattle.page.specs.SheetText.{outcome}
use Rattle.reply.proofs.Kept.{from_text, accepted_text, refused_text}
use Rattle.reply.proofs.Promises.{no_room, written}
use Rattle.reply.proofs.answering.told.Goals as goal

pub returns-then-place-ROOM : goal.returns-then-place-ROOM
returns-then-place-ROOM g c =
    let t = g.T.Telling in
    let short : length c.args.place.now < t.ROOM = rw c.ROOM.ensures at c.if-place-ROOM.true in
    no_room t.ROOM (t.told (outcome c.args.text.now)) c.args.place.now short

pub tell-requires : goal.tell-requires
tell-requires g c = (from_text _ c.in-Ok.ensures, rw c.ROOM.ensures at c.if-place-ROOM.false)

pub returns-in-Ok : goal.returns-in-Ok
returns-in-Ok g c =
    let t = g.T.Telling in
    let roomy : t.ROOM ≤ length c.args.place.now = rw c.ROOM.ensures at c.if-place-ROOM.false in
    written t.ROOM (t.told (outcome c.args.text.now)) c.args.place.now roomy (accepted_text t.told g.met.T.Telling.refusals _ c.in-Ok.ensures c.tell.ensures)

pub returns-in-Err : goal.returns-in-Err
returns-in-Err g c =
    let t = g.T.Telling in
    let roomy : t.ROOM ≤ length c.args.place.now = rw c.ROOM.ensures at c.if-place-ROOM.false in
    written t.ROOM (t.told (outcome c.args.text.now)) c.args.place.now roomy (refused_text t.told g.met.T.Telling.refusals _ c.in-Err.ensures c.refuse.ensures)
