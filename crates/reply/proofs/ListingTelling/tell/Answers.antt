-- `reply::Listing` tells of a sheet: the records are those of the listing, and their lines the page's text.
use Rattle.std.proofs.Common.{sym}
use native.Mathlib.Nat as Nat
use lib.Seq.{length-take-le}
use Rattle.reply.proofs.Telling.{within, room_for, lists, not_refused}
use Rattle.reply.proofs.ListingTelling.tell.Goals as goal

pub slice_bounds-records-end : goal.slice_bounds-records-end
slice_bounds-records-end c =
    let f = c.requires.0 in
    within f.said f.passed c.record_space-records.result (sym c.record_space-records.ensures) (c.list_records.ensures f.said f.passed f.read) c.in-Ok.is

pub slice_bounds-write_listing-end : goal.slice_bounds-write_listing-end
slice_bounds-write_listing-end c =
    let f = c.requires.0 in
    sym (length-take-le _ _ (within f.said f.passed c.record_space-records.result (sym c.record_space-records.ensures) (c.list_records.ensures f.said f.passed f.read) c.in-Ok.is))

pub write_listing-requires : goal.write_listing-requires
write_listing-requires c =
    let f = c.requires.0 in let m = c.requires.1 in
    Nat.le_trans (room_for f.said f.passed c.record_space-records.result (sym c.record_space-records.ensures) (c.list_records.ensures f.said f.passed f.read) c.in-Ok.is) m

pub returns-in-Ok : goal.returns-in-Ok
returns-in-Ok c w passed read =
    lists w passed c.record_space-records.result (sym c.record_space-records.ensures) (c.list_records.ensures w passed read) c.in-Ok.is c.write_listing.ensures

pub returns-in-Err : goal.returns-in-Err
returns-in-Err c w passed read =
    absurd (not_refused w passed c.record_space-records.result (sym c.record_space-records.ensures) (c.list_records.ensures w passed read) c.in-Err.is)
