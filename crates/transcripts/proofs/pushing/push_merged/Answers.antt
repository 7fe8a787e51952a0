use Rattle.std.proofs.Common.{◌∙◌, ◌++◌, ◌∷◌, [], ap, append-nil, subst, sym}
use Rattle.std.proofs.lemmas.List.{flat_map_more}
use Rattle.program_texts.specs.PayloadTexts.{payload_texts}
use Rattle.transcripts.specs.TranscriptText.{stamped_row_text}
use Rattle.transcripts.proofs.Merge.{IsMerging, fewer, merging-done, merging-init, merging-step}
use Rattle.transcripts.proofs.pushing.push_merged.Goals as goal

-- nothing is taken yet
pub loop-row-init : goal.loop-row-init
loop-row-init g c =
    let wrote = c.args.lefts.items in
    record {
      keys = c.in_ok-merging.ensures.keys;
      rows = (
        [],
        subst (λ l. IsMerging wrote l []) (sym c.in_ok-merging.ensures.lefts) (merging-init wrote c.requires.rising),
        sym (append-nil c.args.text.now.items),
      );
    }

-- one entry more is taken, and its line written
pub loop-row-preserved : goal.loop-row-preserved
loop-row-preserved g c =
    let wrote = c.args.lefts.items in
    let line = stamped_row_text (payload_texts g.T.PayloadText) in
    let row = c.in-Some.row in
    let so_far = c.loop-row.invariant.rows in
    let rows = so_far.0 in
    record {
      keys = c.take.ensures.keys;
      rows = (
        rows ++ (row ∷ []),
        merging-step wrote c.loop-row.merging.lefts.items c.take.new.self.lefts.items rows row so_far.1 c.in-Some.ensures.taken,
        c.in_ok-push_stamped_row.ensures.text ∙ ap (λ t. t ++ line row) so_far.2
            ∙ flat_map_more line c.args.text.now.items rows row,
      );
    }

-- an entry less is left
pub loop-row-smaller : goal.loop-row-smaller
loop-row-smaller g c = fewer c.loop-row.merging.lefts.items c.take.new.self.lefts.items c.in-Some.row c.in-Some.ensures.taken

-- nothing is left
pub returns : goal.returns
returns g c =
    let all = c.loop-row.invariant.rows in
    (all.0, merging-done c.args.lefts.items c.loop-row.merging.lefts.items all.0 all.1 c.in_default.ensures.taken, all.2)
