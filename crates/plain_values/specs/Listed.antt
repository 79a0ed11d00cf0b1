-- Elements of a list, an only one in place.
use Rattle.std.specs.Prelude.{◌≡◌, ◌≢◌, List, [], ◌∷◌, length}
use Rattle.plain_values.specs.declared.few_list.Listed.{Listed}
use Rattle.plain_values.specs.declared.few_list.Listed.TheVariants.{One, More}

-- the elements, wherever they are kept
abbrev pub listed_in : {T A : Type 0} → Listed T A → List T
listed_in (One element) = element ∷ []
listed_in (More elements) = elements.items

-- an only element is in place
abbrev pub HasOneInPlace : {T A : Type 0} → Listed T A → Type 0
HasOneInPlace (One element) = Unit {0}
HasOneInPlace (More elements) = length elements.items ≢ 1
