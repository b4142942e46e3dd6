use Rattle.std.proofs.Common.{sym, ◌∙◌, inr, ⊎_elim, rules}
use Rattle.std.proofs.lemmas.Bool.{cases_lt, eqb-true, eqb-false}
use Rattle.books.proofs.Counts.{present_none, present_some}
use Rattle.books.proofs.empty.is_empty.Goals as goal

pub returns : goal.returns
returns g c =
    let b = g.B.LookupHelper.book c.args.book.now in
    record {
      counts = search rules;
      none = λ e id.
          ⊎_elim
          (present_none b.held b.bound (sym c.size.ensures ∙ eqb-true c.size.result 0 e) id)
          (λ past. g.B.LookupHelper.laws.inside c.args.book.now id (inr past))
          (cases_lt id b.bound);
      some = λ e. present_some b.held b.bound (λ z. eqb-false c.size.result 0 e (c.size.ensures ∙ z));
    }
