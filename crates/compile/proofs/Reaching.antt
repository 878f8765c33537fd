-- Ways through code that grows.
use Rattle.compile.proofs.Common.{◌≡◌, ℕ, ◌≤◌, Bool, true, false, cond, not, refl, List, Option, Some, None}
use Rattle.compile.proofs.Common.{Result, Ok, Err, IfOk, subst, ap, ◌∙◌, IfSome, AllocError, Insn, SysCall}
use Rattle.compile.proofs.Common.{Keeps, first_value, GivesWith, WayGives, View, Way, Rule}
use Rattle.compile.proofs.Building.{gives_more}

pub way_kept : (old new : List Insn) (view : View) (call : SysCall) (way : Way) (value : ℕ) → Keeps old new
    → WayGives view old call way value → WayGives view new call way value
way_kept old new view call way value keeps gives = λ a has. keeps call way.at a value way.most (gives a has)

pub way_more : (code : List Insn) (view : View) (call : SysCall) (way : Way) (value most : ℕ)
    → way.most ≤ most
    → WayGives view code call way value → GivesWith view code call way.at value most
way_more code view call way value most larger gives =
    λ a has. gives_more code call way.at a value way.most most (gives a has) larger

-- two places made near, one after the other
pub either_nearer : (old mid new : List Insn) (view : View) (call : SysCall) (value : ℕ) (holds : Bool)
    (hit miss near_hit near_miss : Way) (most : ℕ) → Keeps old mid → Keeps mid new
    → (WayGives view old call miss value → WayGives view mid call near_miss value)
    → (WayGives view mid call hit value → WayGives view new call near_hit value)
    → near_hit.most ≤ most → near_miss.most ≤ most
    → WayGives view old call (cond holds hit miss) value
    → GivesWith view new call (cond holds near_hit.at near_miss.at) value most
either_nearer old mid new view call value true hit miss near_hit near_miss most first second misses hits
    hit_less miss_less gives =
    way_more new view call near_hit value most hit_less
    (hits (way_kept old mid view call hit value first gives))
either_nearer old mid new view call value false hit miss near_hit near_miss most first second misses hits
    hit_less miss_less gives =
    way_more new view call near_miss value most miss_less
    (way_kept mid new view call near_miss value second (misses gives))

pub found_weaker : (found : Result (Option Way) AllocError) (P Q : Way → Type 0)
    → ((way : Way) → P way → Q way)
    → IfOk found (λ some. IfSome some P) → IfOk found (λ some. IfSome some Q)
found_weaker (Ok (Some way)) P Q weaker holds = weaker way holds
found_weaker (Ok None) P Q weaker holds = tt
found_weaker (Err fault) P Q weaker holds = tt

-- the way for either answer
pub chosen_way : (view : View) (code : List Insn) (call : SysCall) (holds : Bool) (hit miss : Way) (value : ℕ)
    → (holds ≡ true → WayGives view code call hit value)
    → (holds ≡ false → WayGives view code call miss value)
    → WayGives view code call (cond holds hit miss) value
chosen_way view code call true hit miss value one other = one refl
chosen_way view code call false hit miss value one other = other refl

-- the place that both answers lead to
pub joined_way : (view : View) (code : List Insn) (call : SysCall) (holds : Bool) (hit miss : Way)
    (value most : ℕ)
    → hit.at ≡ miss.at → hit.most ≤ most → miss.most ≤ most
    → WayGives view code call (cond holds hit miss) value → GivesWith view code call miss.at value most
joined_way view code call true hit miss value most same hit_less miss_less gives =
    let P : ℕ → Type 0 = λ at. GivesWith view code call at value most in
    subst P same (way_more code view call hit value most hit_less gives)
joined_way view code call false hit miss value most same hit_less miss_less gives =
    way_more code view call miss value most miss_less gives

-- a branch that leads the other way
pub turned_way : (turned holds : Bool) (view : View) (code : List Insn) (call : SysCall) (first second : Way)
    (value : ℕ)
    → turned ≡ true → WayGives view code call (cond (cond turned (not holds) holds) first second) value
    → WayGives view code call (cond holds second first) value
turned_way true true view code call first second value turned gives = gives
turned_way true false view code call first second value turned gives = gives
turned_way false holds view code call first second value turned gives =
    absurd (let e : false ≡ true = turned in cc)

pub straight_way : (turned holds : Bool) (view : View) (code : List Insn) (call : SysCall)
    (first second : Way)
    (value : ℕ) → turned ≡ false → WayGives view code call
    (cond (cond turned (not holds) holds) first second) value
    → WayGives view code call (cond holds first second) value
straight_way true holds view code call first second value turned gives =
    absurd (let e : true ≡ false = turned in cc)
straight_way false holds view code call first second value turned gives = gives

-- the way of the rules that are left
pub left_way : (view : View) (code : List Insn) (call : SysCall) (way : Way) (slice left rules : List Rule)
    (other : ℕ) → slice ≡ left → first_value left other call ≡ first_value rules other call
    → WayGives view code call way (first_value slice other call)
    → WayGives view code call way (first_value rules other call)
left_way view code call way slice left rules other same says gives =
    let P : ℕ → Type 0 = λ v. WayGives view code call way v in
    subst P (ap (λ rs. first_value rs other call) same ∙ says) gives
