-- The ports of a parsed text: their names stand in the text, and their fields fit a signal list entry.
use Rattle.std.specs.Prelude.{ℕ, ◌^◌, ◌≤◌, ◌<◌, ◌≡◌, Bool, true, false, List, eqb, length}
use Rattle.std.proofs.Common.{sym, ap, subst, arith, eqb-true}
use Rattle.node.specs.Result.{Done}
use Rattle.language.specs.Limits.{max_bytes, offset_bits}
use Rattle.language.specs.Tokens.{Name, End, Wrong, code, Token, is_of, tokens}
use Rattle.language.specs.Tree.{Definition, Declaration, OneSignal, OfWidth, OfType, Spec}
use Rattle.language.specs.Parsing.{parsed}
use Rattle.language.specs.DeclaredNames.{Port, inputs, outputs, Declarations, declarations}
use Rattle.language.specs.Numbering.{in_order}
use Rattle.language.specs.Numbered.{name_at}
use Rattle.language.specs.Braces.{ProperDeclaration, ProperSubsection}
use Rattle.language.proofs.Laws.Basics.Lists.{All, all_append, all_both}
use Rattle.language.proofs.Laws.Grammar.TokenLaws.{Stands, tokens_stand}
use Rattle.language.proofs.Laws.Grammar.TreeTokens.{InDeclaration, InSubsection, InSpec}
use Rattle.language.proofs.Laws.Grammar.Parses.{parses, parsed-proper}
use Rattle.language.proofs.Laws.Grammar.NameTokens.{NamedIn, tokens-named, parsed-tokens}
use Rattle.language.specs.Listed.{declared_name}
use Rattle.language.proofs.Laws.Values.NameLaws.{inputs-all, outputs-all}
use Rattle.language.proofs.Laws.Values.PortLaws.{PortFor, ports_for_lem, pairs-right, ports_distinct}
use Rattle.language.proofs.Laws.Values.SignalLaws.{ports_listed}
use Rattle.language.proofs.Laws.Meaning.NumberedLaws.{PortPlaced, PortNumbered}

-- a name's token
record NamePlaced (text : List ℕ) (t : Token) : Type 0 where
  named : name_at text t.at ≡ t.text
  offset : t.at < 2 ^ offset_bits

abbrev Placed : List ℕ → Token → Type 0
Placed text t = is_of Name t ≡ true → NamePlaced text t

token-placed : (text : List ℕ) → length text ≤ max_bytes → (t : Token) → Stands text t → NamedIn text t → Placed text t
token-placed text short t s n e =
    let class : code Name ≡ code t.class = eqb-true (code Name) (code t.class) e in
    let some : 1 ≤ length t.text = s.some (ap (eqb (code Wrong)) (sym class)) (ap (eqb (code End)) (sym class)) in
    let inside = s.inside in
    record { named = n e; offset = omega arith }

-- the name of a declaration
declared-placed : (text : List ℕ) (m : Declaration) → InDeclaration (Placed text) m → ProperDeclaration m → NamePlaced text (declared_name m)
declared-placed text (OneSignal x) h n = h n
declared-placed text (OfWidth x e) h n = h.0 n.0
declared-placed text (OfType u x) h n = h.1 n.1

port_placed : (text : List ℕ) (defs : List Definition) (output : Bool) (m : Declaration) (p : Port) → PortFor defs output m p → NamePlaced text (declared_name m) → PortPlaced text p
port_placed text defs output m p f h =
    let at : NamePlaced text p.name = subst (NamePlaced text) (sym f.named) h in
    record { named = at.named; offset = at.offset; narrow = f.narrow }

module _ (text : List ℕ) (x : Spec) (d : Declarations) (e : parsed text ≡ Done x) (hd : declarations x ≡ Done d) where
  tokens-placed : InSpec (Placed text) x
  tokens-placed = parsed-tokens (Placed text) text (all_both (token-placed text (parses e).short) (tokens text) (tokens_stand text) (tokens-named text)) e

  names-placed : All (λ m. NamePlaced text (declared_name m)) (inputs x.main) × All (λ m. NamePlaced text (declared_name m)) (outputs x.main)
  names-placed =
      let proper = (parsed-proper text e).main in
      let placed = tokens-placed.main in
      let I = InDeclaration (Placed text) in (
        all_both (declared-placed text) (inputs x.main) (inputs-all (InSubsection (Placed text)) I (λ ds g. g) x.main placed)
            (inputs-all ProperSubsection ProperDeclaration (λ ds g. g) x.main proper),
        all_both (declared-placed text) (outputs x.main) (outputs-all (InSubsection (Placed text)) I (λ ds g. g) x.main placed)
            (outputs-all ProperSubsection ProperDeclaration (λ ds g. g) x.main proper),
      )

  pub ports_placed : All (PortPlaced text) (in_order d)
  ports_placed =
      let f = ports_for_lem x d hd in
      all_append (PortPlaced text) d.inputs d.outputs
      (pairs-right (port_placed text x.definitions false) (inputs x.main) d.inputs f.ins names-placed.0)
      (pairs-right (port_placed text x.definitions true) (outputs x.main) d.outputs f.outs names-placed.1)

  -- every port of the text is in the list, under its own name
  pub ports_numbered : All (PortNumbered text (in_order d)) (in_order d)
  ports_numbered =
      all_both (λ p a b. record { listed = a; placed = b }) (in_order d) (ports_listed (in_order d) (ports_distinct x d (parses e).formed.distinct hd)) ports_placed
