use Rattle.std.proofs.Common.{◌≡◌, List, ℕ, map, sym, ◌∙◌, Vec, Global}
use Rattle.std.proofs.lemmas.Result.{on_ok_weaker}
use Rattle.sz_protofile.specs.declared.field.Plain.{Plain}
use Rattle.sz_protofile.specs.declared.field.Sort.TheVariants as sorts
use Rattle.sz_protofile_types.proofs.LinkLemmas.{linked_still, linked_more_as}
use Rattle.sz_protofile_types.proofs.graph.Graph.take.Goals as goal

abbrev links_in : List (Vec ℕ Global) → List (List ℕ)
links_in links = map (λ (l : Vec ℕ Global). l.items) links

unkept_message : (m : List ℕ) → sorts.Unkept ≡ sorts.Message m → ⊥
unkept_message m e = absurd cc

kept_message : (p : Plain) (m : List ℕ) → sorts.Kept p ≡ sorts.Message m → ⊥
kept_message p m e = absurd cc

pub returns-in-Message : goal.returns-in-Message
returns-in-Message c = record {
  linked = on_ok_weaker c.link.result
      (λ new before h. linked_more_as before
      c.args.field.now c.as_str.result.now c.in-Message.target c.as_str-in-Message.result.now c.args.self.now.nodes
      (links_in c.args.self.now.links.items) c.link.new.self.nodes (links_in c.link.new.self.links.items)
      c.in-Message.is c.as_str.ensures.value c.as_str-in-Message.ensures.value new h)
      c.link.ensures.linked;
}

pub returns-in-Unkept : goal.returns-in-Unkept
returns-in-Unkept c = record {
  linked = λ before h. linked_still before c.args.field.now c.args.self.now.nodes (links_in c.args.self.now.links.items)
      (λ m e. unkept_message m (sym c.in-Unkept.is ∙ e)) h;
}

pub returns-in-Kept : goal.returns-in-Kept
returns-in-Kept c = record {
  linked = λ before h. linked_still before c.args.field.now c.args.self.now.nodes (links_in c.args.self.now.links.items)
      (λ m e. kept_message _ m (sym c.in-Kept.is ∙ e)) h;
}
