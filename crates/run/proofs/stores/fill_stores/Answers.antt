use Rattle.std.proofs.Common.{sym, ◌∙◌, arith}
use Rattle.run.proofs.Storing.{listing_none, listing_some, listing_room, listing_all}
use Rattle.run.proofs.stores.fill_stores.Goals as goal

pub loop-statement-preserved-in_default : goal.loop-statement-preserved-in_default
loop-statement-preserved-in_default c =
    listing_none _ c.args.statements.now c.args.requests.now c.loop-statement.requests c.loop-statement.statement-index c.loop-statement.k _
    (omega arith) c.loop-statement.invariant (sym c.in_default.is ∙ c.store_request_of.ensures)

pub bounds-requests-k : goal.bounds-requests-k
bounds-requests-k c =
    listing_room _ c.args.statements.now c.args.requests.now c.loop-statement.requests c.loop-statement.statement-index c.loop-statement.k _
    (omega arith) c.loop-statement.invariant _ (sym c.in-Some.is ∙ c.store_request_of.ensures) c.requires

pub loop-statement-preserved : goal.loop-statement-preserved
loop-statement-preserved c =
    listing_some _ c.args.statements.now c.args.requests.now c.loop-statement.requests c.loop-statement.statement-index c.loop-statement.k _
    (omega arith) c.loop-statement.invariant _ (sym c.in-Some.is ∙ c.store_request_of.ensures) c.requires

pub returns : goal.returns
returns c =
    listing_all _ c.args.statements.now c.args.requests.now c.loop-statement.requests c.loop-statement.statement-index c.loop-statement.k
    (omega arith) c.loop-statement.invariant
