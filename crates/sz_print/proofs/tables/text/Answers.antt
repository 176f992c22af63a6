-- What the tables show is the text of the emits that they stand for.
use Rattle.std.proofs.Common.{◌≡◌}
use Rattle.std.proofs.lemmas.Result.{IfOk-weaker}
use Rattle.sz_total.specs.States.{shown}
use Rattle.sz_print.specs.Tables.{rows_text, tables_text}
use Rattle.sz_print.proofs.TablesLemmas.{text_of_emits}
use Rattle.sz_print.proofs.tables.text.Goals as goal

pub returns-clause-value : goal.returns-clause-value
returns-clause-value c = λ emits stands.
    IfOk-weaker c.text_of_rows.result (λ text. text.items ≡ rows_text c.args.tables.now (shown c.args.total.now))
    (λ text. text.items ≡ tables_text c.args.tables.now emits)
    (λ text is. text_of_emits c.args.total.now c.args.tables.now text.items c.requires.declared is emits stands)
    c.text_of_rows.ensures.rows
