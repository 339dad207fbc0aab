-- The version and the counts are known, since they were found one after another.
use Rattle.std.proofs.Common.{rules, ◌≡◌, ℕ, ap, ◌∙◌}
use Rattle.pc_model.specs.declared.cell.Field.TheVariants.{Version, Value, Height}
use Rattle.pc_protocol.specs.Notes.{visited}
use Rattle.pc_exchange_law.specs.Paths.{Path, with_read, more_visits}
use Rattle.pc_words.specs.declared.word.WordKind.TheVariants.{Plain}
use Rattle.pc_rule.specs.Passes.{whole, path, board_size}
use Rattle.pc_path.specs.Finds.{HasFound}
use Rattle.examples.proofs.Ferries.{ok_through, found_version, found_number, known_later, version_noted}
use Rattle.examples.proofs.ferry.counted.Goals as goal

pub returns-clause-counted : goal.returns-clause-counted
returns-clause-counted c = let z = board_size c.args.board.now in let o = c.args.pass.now in let p = c.visit.new.pass in let q = c.read.new.pass in let r = c.read-2.new.pass in
    let v = c.in_ok-version.version in let g = c.in_ok-grown.grown in let h = c.in_ok-children.children in
    let one : HasFound (whole o) (whole p) 1 Version v = ok_through _ (HasFound (whole o) (whole p) 1 Version) v c.visit.result c.map_err.result c.map_err.ensures.cases (c.in_ok-version.was) c.visit.ensures.found in
    let two : HasFound (whole p) (whole q) 1 Value g = ok_through _ (HasFound (whole p) (whole q) 1 Value) g c.read.result c.map_err-2.result c.map_err-2.ensures.cases (c.in_ok-grown.was) c.read.ensures.found in
    let three : HasFound (whole q) (whole r) 1 Height h = ok_through _ (HasFound (whole q) (whole r) 1 Height) h c.read-2.result c.map_err-3.result c.map_err-3.ensures.cases (c.in_ok-children.was) c.read-2.ensures.found in
    let at : path p ≡ more_visits (path o) 1 v = ok_through _ (λ x. path p ≡ more_visits (path o) 1 x) v c.visit.result c.map_err.result c.map_err.ensures.cases (c.in_ok-version.was) c.visit.ensures.path in
    let then : path q ≡ with_read (path p) 1 Value (Plain g) = ok_through _ (λ x. path q ≡ with_read (path p) 1 Value (Plain x)) g c.read.result c.map_err-2.result c.map_err-2.ensures.cases (c.in_ok-grown.was) c.read.ensures.counted in
    let last : path r ≡ with_read (path q) 1 Height (Plain h) = ok_through _ (λ x. path r ≡ with_read (path q) 1 Height (Plain x)) h c.read-2.result c.map_err-3.result c.map_err-3.ensures.cases (c.in_ok-children.was) c.read-2.ensures.counted in
    let begun = c.requires.begun.1 in let noted = version_noted (whole o) (whole p) 1 v one in record {
      calm = search rules;
      path_is = last ∙ ap (λ (x : Path). with_read x 1 Height (Plain h)) (then ∙ ap (λ (x : Path). with_read x 1 Value (Plain g)) (at ∙ ap (λ (x : Path). more_visits x 1 v) begun));
      visited = search rules;
      unlisted = search rules;
      version = search rules;
      known = known_later z (whole q) (whole r) 1 v Version v c.read-2.ensures.goes_on
          (known_later z (whole p) (whole q) 1 v Version v c.read.ensures.goes_on (found_version z (whole o) (whole p) 1 v one));
      grown = known_later z (whole q) (whole r) 1 v Value g c.read-2.ensures.goes_on (found_number z (whole p) (whole q) 1 v Value g noted two);
      children = found_number z (whole q) (whole r) 1 v Height h (noted.0, c.read.ensures.goes_on.told (visited 1 v noted.0) noted.1) three;
    }
