use Rattle.std.proofs.Common.{◌≡◌, sym, ◌∙◌, rules}
use Rattle.std.specs.List.{count_by}
use Rattle.run.proofs.Storing.{is_store, stores_counted}
use Rattle.run.proofs.stores.store_count.Goals as goal

pub returns : goal.returns
returns c =
    let counted : c.count.result ≡ count_by is_store c.args.statements.now = search rules in
    counted ∙ sym (stores_counted c.args.statements.now)
