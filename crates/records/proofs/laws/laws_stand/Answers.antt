use Rattle.std.proofs.Common.{refl}
use Rattle.records.proofs.Equal.{kinds_decided, classes_decided, types_decided}
use Rattle.records.proofs.laws.laws_stand.Goals as goal

pub returns : goal.returns
returns c = record { kinds = kinds_decided; classes = classes_decided; types = types_decided; value = refl }
