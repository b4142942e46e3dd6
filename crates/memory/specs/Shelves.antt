-- The meaning of the three id books.
use Rattle.records.specs.declared.lookups.LookupType.{LookupType}
use Rattle.records.specs.declared.lookups.LookupExpression.{LookupExpression}
use Rattle.records.specs.declared.lookups.LookupSampledImage.{LookupSampledImage}
use Rattle.books.specs.Books.{Book, Lawful}
use Rattle.memory.specs.declared.shelf.Books.{Books}

-- what the three books mean
pub record Shelf : Type 0 where
  pub types : Book LookupType
  pub values : Book LookupExpression
  pub couples : Book LookupSampledImage

-- what holds of the books in every state
pub record LawfulShelf {S : Type 0} (shelf : S → Shelf) : Type 0 where
  pub types : Lawful (λ s. (shelf s).types)
  pub values : Lawful (λ s. (shelf s).values)
  pub couples : Lawful (λ s. (shelf s).couples)

-- the meaning of the caller's books
abbrev pub shelf_of : {T V C : Type 0} → (T → Book LookupType) → (V → Book LookupExpression) → (C → Book LookupSampledImage) → Books T V C → Shelf
shelf_of types values couples b = record { types = types b.types; values = values b.values; couples = couples b.couples }

-- They are lawful if each book is.
pub shelf_of_lawful : {T V C : Type 0} (types : T → Book LookupType) (values : V → Book LookupExpression) (couples : C → Book LookupSampledImage)
    → Lawful types → Lawful values → Lawful couples → LawfulShelf (shelf_of types values couples)
shelf_of_lawful types values couples t v c = record {
  types = record { inside = λ s. t.inside s.types; fits = λ s. t.fits s.types };
  values = record { inside = λ s. v.inside s.values; fits = λ s. v.fits s.values };
  couples = record { inside = λ s. c.inside s.couples; fits = λ s. c.fits s.couples };
}
