-- What a node put on a link agrees with what its neighbour took from it, whenever each was seen. Both lists are legal
-- for the same direction: without acknowledgements both begin its stream, and their acknowledgements begin the pulses of
-- the payloads that come the other way. Of two lists that begin a third, the shorter begins the longer.
use Rattle.std.proofs.Common.{inl, inr, ⊎_elim, ℕ, ◌≤◌, List, length, take, sym, ap, ◌∙◌, subst, arith}
use Rattle.std.proofs.lemmas.Bool.{cases_lt}
use Rattle.std.proofs.lemmas.List.{take-take}
use Rattle.interference.specs.Net.{Net, IsNetwork, neighbour_of, back_port_of}
use Rattle.interference.proofs.Neighbours.{at-back_port}
use Rattle.node_api.specs.Program.{Program}
use Rattle.wires.specs.declared.wire.Wire.{Wire}
use Rattle.wires.specs.Streams.{Begins}
use Rattle.link_rule.specs.Sent.{IsLegal}
use Rattle.alpha_laws.specs.Stands.{MomentsAgree, OneBegins, StandingNodesAgree}

begins_shorter : {A : Type 0} (xs ys zs : List A) → length xs ≤ length ys → Begins xs zs → Begins ys zs → Begins xs ys
begins_shorter xs ys zs le one other =
    ap (λ l. take (length xs) l) (sym other) ∙ take-take (length xs) (length ys) zs le ∙ one

one_begins : {A : Type 0} (xs ys zs : List A) → Begins xs zs → Begins ys zs → OneBegins xs ys
one_begins xs ys zs one other = ⊎_elim
    (λ lt. inl (begins_shorter xs ys zs (omega (arith, lt)) one other))
    (λ le. inr (begins_shorter ys xs zs le other one))
    (cases_lt (length xs) (length ys))

agree_if_legal : {S M E : Type 0} (program : Program S M E) (net : Net) (v w : ℕ) (put taken : List (Wire M))
    → IsLegal program net v w put → IsLegal program net v w taken → MomentsAgree put taken
agree_if_legal program net v w put taken one other = record {
  wires = one_begins _ _ _ one.wires other.wires;
  acks = one_begins _ _ _ one.acks other.acks;
}

pub standing_agree : {S M E : Type 0} {program : Program S M E} {net : Net} → IsNetwork net → StandingNodesAgree program net
standing_agree {program = program} {net = net} ok v i node other sent taken sent' taken' vertex lt here there =
    let w = neighbour_of net v i in
    let k = back_port_of net v i in
    agree_if_legal program net v w (sent i) (taken' k) (here.put_legal i lt)
    (subst (λ u. IsLegal program net u w (taken' k)) (at-back_port net ok v i vertex lt)
    (there.fits.ports k (ok.symmetric v i vertex lt)).taken_legal)
