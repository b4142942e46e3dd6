use Rattle.run.proofs.statics.+static_type.Given as goal

abbrev pub decreases-static_type : goal.decreases-static_type
decreases-static_type l = l.handle.index
