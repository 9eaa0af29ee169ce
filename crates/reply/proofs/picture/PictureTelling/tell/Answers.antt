-- `reply::picture::Picture` tells of a sheet: the raster is that of the sheet, and what is written of it the picture.
use Rattle.std.proofs.Common.{sym}
use lib.Seq.{length-take-le}
use Rattle.reply.proofs.Drawing.{deep, count_within, printed_from, draws, not_refused}
use Rattle.reply.proofs.picture.PictureTelling.tell.Goals as goal

pub finest-count-requires : goal.finest-count-requires
finest-count-requires c = deep c.requires.0

pub slice_bounds-raster-end : goal.slice_bounds-raster-end
slice_bounds-raster-end c =
    let f = c.requires.0 in
    count_within f.said f.passed f.read c.raster_space-raster.result (sym c.raster_space-raster.ensures) (c.paint.ensures f.said f.passed f.read) c.finest-count.ensures

pub slice_bounds-write_pbm-end : goal.slice_bounds-write_pbm-end
slice_bounds-write_pbm-end c =
    let f = c.requires.0 in
    sym (length-take-le _ _ (count_within f.said f.passed f.read c.raster_space-raster.result (sym c.raster_space-raster.ensures) (c.paint.ensures f.said f.passed f.read) c.finest-count.ensures))

pub returns-in-Ok : goal.returns-in-Ok
returns-in-Ok c w passed read =
    draws w passed c.args.place.now c.requires.1
    (printed_from w passed read c.raster_space-raster.result (sym c.raster_space-raster.ensures) (c.paint.ensures w passed read) c.finest-count.ensures c.args.place.now c.write_pbm.ensures) c.in-Ok.is

pub returns-in-Err : goal.returns-in-Err
returns-in-Err c w passed read =
    absurd (not_refused w passed c.args.place.now c.requires.1
    (printed_from w passed read c.raster_space-raster.result (sym c.raster_space-raster.ensures) (c.paint.ensures w passed read) c.finest-count.ensures c.args.place.now c.write_pbm.ensures) c.in-Err.is)
