-- `reply::list_records` meets its contract: the sheet that is walked is the one that was read.
use Rattle.std.proofs.Common.{◌≡◌, ◌≤◌, length, sym, rules, w32, to_z, of_z}
use lib.Seq.{length-take-le}
use Rattle.reply.proofs.Telling.{small, enough, listed_from}
use Rattle.reply.proofs.list_records.Goals as goal

pub count-count-requires : goal.count-count-requires
count-count-requires c = small c.requires

pub slice_bounds-coefficients-end : goal.slice_bounds-coefficients-end
slice_bounds-coefficients-end c =
    let fits : c.count-count.result ≤ length c.args.sheet.coefficients = let f = c.requires in rw c.count-count.ensures (enough f.said f.read) in
    fits

pub slice_bounds-listing-end : goal.slice_bounds-listing-end
slice_bounds-listing-end c =
    let fits : c.count-count.result ≤ length c.args.sheet.coefficients = let f = c.requires in rw c.count-count.ensures (enough f.said f.read) in
    sym (length-take-le c.count-count.result c.args.sheet.coefficients fits)

pub returns : goal.returns
returns c w passed read =
    let same-x : let t = c.args.sheet in to_z w32 (of_z w32 t.x) ≡ t.x = search rules in
    let same-y : let t = c.args.sheet in to_z w32 (of_z w32 t.y) ≡ t.y = search rules in
    listed_from w read c.args.records.now (simp (same-x, same-y, c.count-count.ensures) at c.listing.ensures)
