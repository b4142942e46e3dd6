use Rattle.std.proofs.Common.{refl}
use Rattle.run.proofs.Again.{asks_again, asks_answered, asked_grows}
use Rattle.run.proofs.Appends.{run_appends, asked_appends, stores_append, store_counts_add, store_halts_append}
use Rattle.run.proofs.Fitting.{inputs_append, inputs_grow}
use Rattle.run.proofs.Grown.{run_grows}
use Rattle.run.proofs.Stored.{stores_grow}
use Rattle.run.proofs.laws.laws_stand.Goals as goal

pub returns : goal.returns
returns c = record {
  appends = run_appends;
  grows = run_grows;
  again = asks_again;
  answered = asks_answered;
  requests = asked_appends;
  kept = asked_grows;
  stores = stores_append;
  counts = store_counts_add;
  halts = store_halts_append;
  stored = stores_grow;
  inputs = inputs_append;
  fitting = inputs_grow;
  value = refl;
}
