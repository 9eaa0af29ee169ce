-- Writing then reading, by the promises of the two calls, as statements. That they hold is proofs/Returning.
use Rattle.std.specs.Prelude.{◌≡◌, List, ◌++◌, ℕ, ◌^◌, ◌≤◌, ◌<◌, length, take, drop, Result, Ok, Err}
use Rattle.page.specs.declared.Refusal.{Refusal}
use Rattle.page.specs.declared.Refusal.TheVariants.{Place}
use Rattle.pbm.specs.Writing.{raster_mask}
use Rattle.printing.specs.Promises.{PrintPromise}
use Rattle.scanning.specs.Promises.{ScanPromise}

-- whatever the raster's bytes: where n bytes were written, reading those n bytes into a place no shorter than the mask gives the depth and the raster's mask, and leaves the later bytes
abbrev pub WriteThenRead : Type 0
WriteThenRead = (k : ℕ) (raster old : List ℕ) (n : ℕ) (now : List ℕ) → PrintPromise k raster old (Ok n) now
    → (place : List ℕ) (r : Result ℕ Refusal) (after : List ℕ) → ScanPromise (take n now) place r after → 4 ^ k ≤ length place
    → (r ≡ Ok k) × (after ≡ raster_mask k raster ++ drop (4 ^ k) place)

-- and into a shorter place they are refused as too short, by 7; so what is written is refused by no other number
abbrev pub WrittenRefused : Type 0
WrittenRefused = (k : ℕ) (raster old : List ℕ) (n : ℕ) (now : List ℕ) → PrintPromise k raster old (Ok n) now
    → (place : List ℕ) (r : Result ℕ Refusal) (after : List ℕ) → ScanPromise (take n now) place r after → length place < 4 ^ k → (r ≡ Err Place) × (after ≡ place)
