-- The search for the first type that is equal to one.
use Rattle.std.specs.Prelude.{ℕ, List, Option}
use Rattle.std.specs.List.{position_from}
use Rattle.records.specs.declared.types.TypeInner.{TypeInner}
use Rattle.records.specs.Types.{same_type}

abbrev pub first_equal : TypeInner → List TypeInner → Option ℕ
first_equal t types = position_from (λ x. same_type x t) 0 types
