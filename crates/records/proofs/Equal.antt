-- Equal is identical: the derived `==` of types.
use Rattle.std.proofs.Common.{◌≡◌, true, rules, arith}
use Rattle.std.proofs.lemmas.Grind.{common_steps}
use Rattle.records.specs.declared.types.TypeInner.{TypeInner}
use Rattle.records.specs.declared.types.TypeInner.TheVariants.{Scalar, Vector, Image, Sampler, BindingArray}
use Rattle.records.specs.Types.{same_type, KindsDecided, ClassesDecided, TypesDecided}

pub kinds_decided : KindsDecided
kinds_decided x y = search rules

pub classes_decided : ClassesDecided
classes_decided x y = search rules

one_type : (x y : TypeInner) → same_type x y ≡ true → x ≡ y
one_type (Scalar k) y e = grind (arith, common_steps)
one_type (Vector s k) y e = grind (arith, common_steps)
one_type (Image d a c) y e = grind (arith, common_steps, classes_decided)
one_type Sampler y e = grind (arith, common_steps)
one_type (BindingArray b) y e = grind (arith, common_steps)

pub types_decided : TypesDecided
types_decided x y = (one_type x y, λ e. search rules)
