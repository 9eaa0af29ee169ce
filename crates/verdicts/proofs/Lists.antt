-- Laws of lists: joined, mapped, and those members that have a property.
use mathlib.Core.Path.{◌≡◌, refl, sym}
use mathlib.Core.Bool.{Bool, false, cond}
use mathlib.Core.Logic.{inl, inr}
use mathlib.Core.List.Memᴰ
use mathlib.Core.List.{List, [], ◌∷◌, ◌++◌, map, flat_map, append_assoc, Memᴰ}
use Rattle.algebra.proofs.Choice.{choice, cond_ap}
use Rattle.verdicts.specs.Walking.{those}

module _ {X : Type 0} where
  -- ---- what every member of two lists has, every member of the joined list has
  pub ++_member : (P : X → Type 0) (xs ys : List X) → ((x : X) → Memᴰ x xs → P x) → ((x : X) → Memᴰ x ys → P x) → (x : X) → Memᴰ x (xs ++ ys) → P x
  ++_member P xs ys f g x m = elim (Memᴰ.append_cases xs m) [
    | inl i ↦ f x i
    | inr i ↦ g x i
  ]

  -- ---- those that have a property
  pub those-++ : (has : X → Bool) (xs ys : List X) → those has (xs ++ ys) ≡ those has xs ++ those has ys
  unfolding those
  those-++ has [] ys = refl
  those-++ has (x ∷ xs) ys = rw (those-++ has xs ys, cond_ap (λ l. l ++ those has ys) (has x) (x ∷ those has xs) (those has xs))

  -- the first of them, where it is known
  pub those_first : (has : X → Bool) (x : X) (xs : List X) (b : Bool) → has x ≡ b → those has (x ∷ xs) ≡ cond b (x ∷ those has xs) (those has xs)
  unfolding those
  those_first has x xs b h = rw h

  pub those_cong : (xs : List X) {f g : X → Bool} → ((x : X) → Memᴰ x xs → f x ≡ g x) → those f xs ≡ those g xs
  unfolding those
  those_cong [] h = refl
  those_cong (x ∷ xs) h = rw (h x (Memᴰ.head refl), those_cong xs (λ y m. h y (Memᴰ.tail m)))

  pub those_member : (has : X → Bool) (xs : List X) (x : X) → Memᴰ x (those has xs) → Memᴰ x xs
  unfolding those
  those_member has [] x m = m
  those_member has (y ∷ ys) x m = choice (λ l. Memᴰ x l → Memᴰ x (y ∷ ys)) (has y) (y ∷ those has ys) (those has ys)
      (λ t n. elim (Memᴰ.cases_cons n) [
        | inl e ↦ Memᴰ.head e
        | inr r ↦ Memᴰ.tail (those_member has ys x r)
      ])
      (λ t n. Memᴰ.tail (those_member has ys x n))
      m

  pub those_none : (xs : List X) → those (λ x. false) xs ≡ []
  unfolding those
  those_none [] = refl
  those_none (x ∷ xs) = those_none xs

module _ {X Y : Type 0} where
  -- ---- each member by a function that is the same there
  pub map_cong : (xs : List X) {f g : X → Y} → ((x : X) → Memᴰ x xs → f x ≡ g x) → map f xs ≡ map g xs
  map_cong [] h = refl
  map_cong (x ∷ xs) h = rw (h x (Memᴰ.head refl), map_cong xs (λ y m. h y (Memᴰ.tail m)))

  -- ---- a list for each member, one list after the other: of two joined lists, and by a function that is the same there
  pub flat_map-++ : (f : X → List Y) (xs ys : List X) → flat_map f (xs ++ ys) ≡ flat_map f xs ++ flat_map f ys
  unfolding flat_map
  flat_map-++ f [] ys = refl
  flat_map-++ f (x ∷ xs) ys = rw (flat_map-++ f xs ys) (sym (append_assoc (f x) (flat_map f xs) (flat_map f ys)))

  pub flat_map_cong : (xs : List X) {f g : X → List Y} → ((x : X) → Memᴰ x xs → f x ≡ g x) → flat_map f xs ≡ flat_map g xs
  unfolding flat_map
  flat_map_cong [] h = refl
  flat_map_cong (x ∷ xs) h = rw (h x (Memᴰ.head refl), flat_map_cong xs (λ y m. h y (Memᴰ.tail m)))

  -- ---- one member for each
  pub flat_map_one : (xs : List X) {f : X → List Y} {g : X → Y} → ((x : X) → Memᴰ x xs → f x ≡ g x ∷ []) → flat_map f xs ≡ map g xs
  unfolding flat_map
  flat_map_one [] h = refl
  flat_map_one (x ∷ xs) h = rw (h x (Memᴰ.head refl), flat_map_one xs (λ y m. h y (Memᴰ.tail m)))

  -- ---- what each member's image gives, where that is known of the member itself
  pub flat_map_map : {Z : Type 0} (f : X → Y) (g : Y → List Z) (xs : List X) {h : X → List Z} → ((x : X) → Memᴰ x xs → g (f x) ≡ h x) → flat_map g (map f xs) ≡ flat_map h xs
  unfolding flat_map
  flat_map_map f g [] e = refl
  flat_map_map f g (x ∷ xs) e = rw (e x (Memᴰ.head refl), flat_map_map f g xs (λ y m. e y (Memᴰ.tail m)))
