-- How far a pass of a trial is with its operation.
use Rattle.std.specs.Prelude.{◌≡◌, ◌<◌, true, false, [], length}
use Rattle.pc_model.specs.declared.shape.Shape.{Ghosts}
use Rattle.pc_model.specs.Shapes.{loose_form}
use Rattle.pc_rule_law.specs.Conditions.{CanWrite}
use Rattle.pc_rule.specs.declared.board.Board.{Board}
use Rattle.pc_rule.specs.declared.board.Pass.{Pass}
use Rattle.pc_rule.specs.declared.refs.Ref.{Ref}
use Rattle.pc_rule.specs.declared.refs.RefKind.TheVariants.{Install}
use Rattle.pc_rule.specs.Passes.{view, knows, path, listed, board_size}
use Rattle.pc_dcss.specs.Installs.{HasMet}
use Rattle.pc_kcas.specs.declared.mode.Mode.TheVariants.{Words, Path as OfPath}
use Rattle.pc_kcas.specs.Exchanges.{RaisesVersions, KnowsOldValues, FitsByMode}

module _ {H : Type 0} {S : Ghosts H} where
  -- it has none begun, and published nothing
  pub record IsAtRest (p : Pass H S) : Type 0 where
    pub rests : (path p).begun ≡ false
    pub can : CanWrite (view p)

  -- it has begun one, published nothing and added no word
  pub record HasBegun (p : Pass H S) : Type 0 where
    pub begun : (path p).begun ≡ true
    pub can : CanWrite (view p)
    pub unlisted : listed p ≡ []

  -- it has begun one, published nothing, and added words of which one exchange can be made
  pub record HasAdded (b : Board H) (p : Pass H S) : Type 0 where
    pub begun : (path p).begun ≡ true
    pub can : CanWrite (view p)
    pub some : 0 < length (listed p)
    pub raises : RaisesVersions (listed p)
    pub fits_words : FitsByMode loose_form (view p).size.slots Words (path p) (listed p)
    pub fits_path : FitsByMode loose_form (view p).size.slots OfPath (path p) (listed p)
    pub old : KnowsOldValues (board_size b) (knows p) (listed p)

  -- this is the reference of the pass's own install, which it placed last
  pub record IsOwnInstall (p : Pass H S) (r : Ref) : Type 0 where
    pub kind : r.kind ≡ Install
    pub seat : r.seat ≡ (view p).seat
    pub number : r.number ≡ (view p).install.number
    pub met : HasMet (view p) r.seat r.number
