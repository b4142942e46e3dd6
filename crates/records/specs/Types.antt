-- Equality of types, as `==` computes it.
use Rattle.std.specs.Prelude.{◌≡◌, Bool, Decides}
use Rattle.records.specs.declared.types.ScalarKind.{ScalarKind}
use Rattle.records.specs.declared.types.ImageClass.{ImageClass}
use Rattle.records.specs.declared.types.TypeInner.{TypeInner}
use Rattle.records.specs.contracts.types.ScalarKindPartialEq.TheImpl as kinds
use Rattle.records.specs.contracts.types.ImageClassPartialEq.TheImpl as classes
use Rattle.records.specs.contracts.types.TypeInnerPartialEq.TheImpl as types

abbrev pub same_kind : ScalarKind → ScalarKind → Bool
same_kind x y = kinds.ghosts.eq x y

abbrev pub same_class : ImageClass → ImageClass → Bool
same_class x y = classes.ghosts.eq x y

abbrev pub same_type : TypeInner → TypeInner → Bool
same_type x y = types.ghosts.eq x y

-- Laws: equal is identical.

abbrev pub KindsDecided : Type 0
KindsDecided = (x y : ScalarKind) → Decides (same_kind x y) (x ≡ y)

abbrev pub ClassesDecided : Type 0
ClassesDecided = (x y : ImageClass) → Decides (same_class x y) (x ≡ y)

abbrev pub TypesDecided : Type 0
TypesDecided = (x y : TypeInner) → Decides (same_type x y) (x ≡ y)
