-- A sheet of the calls, as the page's.
use Rattle.page.specs.Sheet as Page
use Rattle.page.specs.Sheet.{sheet_of}
use Rattle.cells.specs.declared.sheet.Sheet.{Sheet}

abbrev pub the_sheet : Sheet → Page.Sheet
the_sheet s = sheet_of s.d s.coefficients.now s.x s.y s.s s.k
