use Rattle.coded_turns.specs.Prelude.{refl}
use Rattle.coded_turns.proofs.ProgressLaws.{walk_then, walk_removed, removed_once}
use Rattle.coded_turns.proofs.coded.run_coded.Goals as goal

pub code_piece-requires : goal.code_piece-requires
code_piece-requires c =
    (c.requires.0, c.requires.2, c.requires.3, removed_once c.args.progress _ _ c.depth_left-depth.result c.depth_left-depth.ensures.rule)

pub returns : goal.returns
returns c = record { walk = λ d out h. walk_then (walk_removed c.args.budget c.args.progress c.args.cursors.now c.args.firsts.now d c.args.store.now c.args.piece.now out c.depth_left-depth.result c.depth_left-depth.ensures.rule _ refl) (c.code_piece.ensures.walk d out h); most = c.code_piece.ensures.most; spent = c.code_piece.ensures.spent }
