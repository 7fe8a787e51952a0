use Rattle.std.proofs.Common.{◌≡◌, ℕ, List, [], ◌∷◌, ◌++◌, ◌∙◌, IfOk, subst}
use Rattle.interference.specs.Net.{count_of, greatest_degree_of}
use Rattle.number_rows.specs.Row.{row}
use Rattle.program_texts.proofs.named_text.push_sizes.Goals as goal

pub returns : goal.returns
returns c =
    let net = c.args.net.now in
    let before : List ℕ = c.args.text.now.items in
    let said : List ℕ = c.from-nodes.result ∷ c.from-degree.result ∷ c.from.result ∷ [] in
    let nodes : c.from-nodes.result ≡ count_of net = c.from-nodes.ensures ∙ c.nodes.ensures.count in
    let degree : c.from-degree.result ≡ greatest_degree_of net = c.from-degree.ensures ∙ c.greatest_degree.ensures.value in
    let last : c.from.result ≡ c.args.last = c.from.ensures in
    let numbers : said ≡ count_of net ∷ greatest_degree_of net ∷ c.args.last ∷ [] = (cc) in
    subst (λ (ns : List ℕ). IfOk c.push_row.result (λ x. c.push_row.new.text.items ≡ before ++ row ns)) numbers
    c.push_row.ensures.row
