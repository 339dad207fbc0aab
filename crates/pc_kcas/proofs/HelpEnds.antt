-- How the help of an exchange ends, by what stopped one of its words.
use Rattle.std.proofs.Common.{◌≡◌, ◌≢◌, ◌-◌, ℕ, [], refl, sym, ap, subst, ⊎_elim, arith}
use Rattle.pc_model.specs.declared.cell.Field.{Field}
use Rattle.pc_words.specs.declared.status.Status.{Status}
use Rattle.pc_rule_law.specs.Plays.{AddsNotes}
use Rattle.pc_exchange_law.specs.Wholes.{Whole}
use Rattle.pc_rule.specs.declared.refs.Ref.{Ref}
use Rattle.pc_kcas.specs.Collecting.{IsStuckWith}
use Rattle.pc_kcas.specs.Concluding.{TellsCourse}
use Rattle.pc_kcas.specs.Helping.{IsStoppedBy}
use Rattle.pc_kcas.specs.Obstacles.{IsWordOf, IsLink, HasFollowed, IsStuck, IsApartFrom, IsBeyond, IsObstacle}
use Rattle.pc_kcas.specs.Readings.{AreCleanWhereMet, HasLoadedStatus}
use Rattle.pc_kcas.specs.Stops.{IsStopOf}
use Rattle.pc_kcas.specs.declared.obstacle.Stuck.{Stuck}
use Rattle.pc_kcas.specs.declared.obstacle.Stuck.TheVariants.{Two, NoLink}
use Rattle.pc_kcas.specs.declared.obstacle.Obstacle.TheVariants.{Stuck as IsStuckThere}
use Rattle.pc_rule_law.specs.Stages.{IsCleared}
use Rattle.pc_kcas.proofs.Blocking.{stopped_by}
use Rattle.pc_kcas.proofs.Concluded.{clean_met_before}
use Rattle.pc_kcas.proofs.Courses.{course_seen}

-- a status tells of the words in which the exchange had been met at an earlier moment too
pub cleaned_since : (o x y : Whole) (op : Ref) (s : Status) → AddsNotes o.view x.view → TellsCourse x y op s → IsCleared s op.number → AreCleanWhereMet o.view y.view op
cleaned_since o x y op s adds course cleared = clean_met_before o.view x.view y.view op adds (course.cleaned cleared)

pub course_loaded : (x y : Whole) (op : Ref) (s : Status) → HasLoadedStatus x y op.seat s → TellsCourse x y op s
course_loaded x y op s l = course_seen x y op s l.told l.learnt

-- it is stuck at one of its words
pub stuck_there : (x y : Whole) (op : Ref) (n : ℕ) (f : Field) (links left : ℕ) (how : Stuck) → IsObstacle x y op n f links left (IsStuckThere how)
    → IsStuck x.view y left how × IsApartFrom op how
stuck_there x y op n f links left (Two first second) h = (h.0, tt)
stuck_there x y op n f links left (NoLink met) h = ((h.2, h.1), h.3)

apart_by : (op : Ref) (how : Stuck) → how ≢ NoLink op → IsApartFrom op how
apart_by op (Two first second) other = tt
apart_by op (NoLink met) other = λ is. other (ap (λ (r : Ref). NoLink r) is)

beyond_link : (x y : Whole) (op : Ref) (n : ℕ) (f : Field) (left : ℕ) (met : Ref) (how : Stuck) → IsWordOf y op n f → IsBeyond x y op n f left met how
    → IsLink x.view y.view y met
beyond_link x y op n f left met how word b = record { exchange = op; node = n; field = f; word = word; kind = b.kind; found = b.found; other = b.other }

-- or the help of the exchange that was met there is
pub stuck_beyond : (x y : Whole) (op : Ref) (n : ℕ) (f : Field) (left : ℕ) (met : Ref) (how nearer : Stuck) → IsWordOf y op n f → IsBeyond x y op n f left met how
    → IsStuckWith op met how nearer → IsStuck x.view y left nearer × IsApartFrom op nearer
stuck_beyond x y op n f left met how nearer word b with_it = ⊎_elim
    (λ (here : (how ≡ NoLink op) × (nearer ≡ NoLink met)).
    let none : IsLink x.view y.view y op × (left ≡ 0) = subst (IsStuck x.view y left) here.0 b.stuck in
    subst (λ (s : Stuck). IsStuck x.view y left s × IsApartFrom op s) (sym here.1) ((beyond_link x y op n f left met how word b, none.1), b.other))
    (λ (far : (how ≢ NoLink op) × (nearer ≡ how)). subst (λ (s : Stuck). IsStuck x.view y left s × IsApartFrom op s) (sym far.1) (b.stuck, apart_by op how far.0))
    with_it

-- the whole help is stopped by one reference
pub stopped_since : (links passes : ℕ) (x y : Whole) (left : ℕ) (op by : Ref) (how : Stuck) → passes ≡ links → HasFollowed (passes - left) x.view y
    → IsStuck x.view y left how × IsApartFrom op how → IsStopOf op how by → IsStoppedBy links x.view y op by
stopped_since links passes x y left op by how all followed stuck is = stopped_by links x.view x y left ([], refl)
    (λ (none : left ≡ 0). let e : passes - left ≡ links = omega arith in subst (λ n. HasFollowed n x.view y) e followed)
    op by how stuck.0 stuck.1 is
