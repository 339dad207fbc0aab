-- Sound cells stay sound along a run whose exchanges fit.
use Rattle.std.proofs.Common.{ℕ, zero, suc, List, Option, Some, None}
use Rattle.pc_model.specs.Cells.{Cells}
use Rattle.pc_model.specs.Exchanges.{Exchange, Stands}
use Rattle.pc_model.specs.Forms.{Form, IsSound, Fits}
use Rattle.pc_history.specs.Runs.{after, cells_at, OnItem}
use Rattle.pc_history.specs.RunLaws.{RunsStaySound}

sound_after : (form : Form) (slots : ℕ) (o : Option Exchange) (c : Cells) → OnItem (λ x. Stands x c) o
    → OnItem (λ e. (charged : List ℕ) × Fits form slots e charged) o → IsSound form slots c
    → IsSound form slots (after o c)
sound_after form slots None c stands fits sound = sound
sound_after form slots (Some e) c stands fits sound = fits.1.leaves c sound stands

pub runs_stay_sound : (form : Form) → RunsStaySound form
runs_stay_sound form slots opening clock item run fits sound zero = sound
runs_stay_sound form slots opening clock item run fits sound (suc t) = sound_after form slots (item t)
    (cells_at opening item t) (run.stands t) (fits t)
    (runs_stay_sound form slots opening clock item run fits sound t)
