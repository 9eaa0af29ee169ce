-- `cells::sheet::Sheet::scaled_form` meets its contract: the coefficients in 64 bits, each times its power of two.
use mathlib.Core.Path.{refl}
use Rattle.cells.proofs.Widening.{widened_scaled}
use Rattle.cells.proofs.sheet.Sheet.scaled_form.Goals as goal

pub returns : goal.returns
returns c = widened_scaled c.requires refl c.wide_places-places.ensures c.scale.ensures
