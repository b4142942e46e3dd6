use Rattle.std.proofs.Common.{rules, nat_lt}
use Rattle.records.specs.declared.expressions.SwizzleComponent.TheVariants.{X}
use Rattle.records.specs.declared.expressions.SwizzleComponent.{SwizzleComponent}
use Rattle.records.specs.Numbers.{component_number}
use Rattle.run.proofs.rules.has_pattern.Goals as goal

pub returns : goal.returns
returns c = c.of_first.ensures X (λ (x : SwizzleComponent). nat_lt (component_number x) c.args.count) (λ x r e. search rules)
