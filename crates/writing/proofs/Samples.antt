-- Three records as lines, computed: level 7, p 127, q 5, above; level 1, p 0, q 1, below; level 0, coloured.
use mathlib.Core.Path.{◌≡◌, refl}
use mathlib.Core.List.{[], ◌∷◌, flat_map}
use Rattle.page.specs.ListingText.{digits_within, decimal, record_line}
use Rattle.writing.specs.Steps.{records_text}

three_records : records_text (461_822 ∷ 66_051 ∷ 1 ∷ [])
    ≡ 55 ∷ 9 ∷ 49 ∷ 50 ∷ 55 ∷ 9 ∷ 53 ∷ 9 ∷ 43 ∷ 10 ∷ 49 ∷ 9 ∷ 48 ∷ 9 ∷ 49 ∷ 9 ∷ 45 ∷ 10 ∷ 48 ∷ 9 ∷ 48 ∷ 9 ∷ 48 ∷ 9 ∷ 48 ∷ 10 ∷ []
unfolding records_text flat_map digits_within decimal record_line
three_records = refl
