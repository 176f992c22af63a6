-- A file more at the end is the newest one of its name.
use Rattle.std.proofs.Common.{◌∙◌, [], sym, ap, unwrap_or}
use Rattle.sz_io.specs.NamedFiles.{bytes_named}
use Rattle.sz_io.proofs.PutLemmas.{bytes_named-put_same, bytes_named-put_other}
use Rattle.sz_io.proofs.sure_files.SureFiles.put.Goals as goal

pub returns-clause-ok : goal.returns-clause-ok
returns-clause-ok c =
    let files = c.args.self.now.files.items in
    let named = c.in_ok-from_str.ensures.ok in
    let grown = c.in_ok-push.ensures.items in
    record {
      bytes_now = ap (λ l. unwrap_or (bytes_named l c.args.name.now) []) grown
          ∙ ap (λ o. unwrap_or o []) (bytes_named-put_same files _ _ named) ∙ c.in_ok-from_slice.ensures.items;
      others_same = λ other apart.
          ap (λ l. unwrap_or (bytes_named l other) []) grown
          ∙ ap (λ o. unwrap_or o []) (bytes_named-put_other files _ other (λ same. apart (sym same ∙ named)));
    }
