-- Stores: what each needs, and the request that it lists.
use Rattle.std.specs.Prelude.{ℕ, suc, Bool, false, cond, ◌&&◌, List, [], ◌∷◌, Some, None, Option}
use Rattle.records.specs.declared.handles.ExpressionHandle.{ExpressionHandle}
use Rattle.records.specs.declared.types.VectorSize.TheVariants.{Quad}
use Rattle.records.specs.declared.types.TypeInner.{TypeInner}
use Rattle.records.specs.declared.types.TypeInner.TheVariants.{Vector, Image}
use Rattle.records.specs.declared.statements.Statement.{Statement}
use Rattle.records.specs.declared.statements.Statement.TheVariants.{Emit, ImageStore}
use Rattle.units.specs.declared.requests.Sort.TheVariants.{Store}
use Rattle.units.specs.declared.requests.Request.{Request}
use Rattle.run.specs.declared.passes.Halt.{Halt}
use Rattle.run.specs.declared.passes.Halt.TheVariants.{StuckAtStore, Outside}
use Rattle.run.specs.Envs.{Env}
use Rattle.run.specs.Types.{class_kind}
use Rattle.run.specs.Rules.{Known, is_of, is_int, place_type, layer_fits, inside_one, inside_option}
use Rattle.run.specs.Runs.{first_halt}
use Rattle.run.specs.Worth.{Values, components_of, image_request}

-- a place of integers, a layer where the image is arrayed, four components of the image's kind
abbrev pub store_fits : Known → Option TypeInner → ExpressionHandle → Option ExpressionHandle → ExpressionHandle → Bool
store_fits tys (Some (Image dim arrayed class)) c l v =
    is_int (tys c.index) (place_type dim) && (layer_fits tys arrayed l && is_of (tys v.index) (Vector Quad (class_kind class)))
store_fits tys _ c l v = false

abbrev pub inside_store : Env → ExpressionHandle → ExpressionHandle → Option ExpressionHandle → ExpressionHandle → Bool
inside_store env i c l v = inside_one env i && (inside_one env c && (inside_option env l && inside_one env v))

-- why statement j halts a run, if it does
abbrev pub store_halt : Env → Known → ℕ → Statement → Option Halt
store_halt env tys j (Emit r) = None
store_halt env tys j (ImageStore i c l v) =
    cond (inside_store env i c l v) (cond (store_fits tys (tys i.index) c l v) None (Some (StuckAtStore j))) (Some Outside)

-- the first that halts, of statements j, j + 1 and so on
abbrev pub halting_stores : Env → Known → ℕ → List Statement → Option Halt
halting_stores env tys = first_halt (store_halt env tys)

abbrev pub store_request : Values → ExpressionHandle → ExpressionHandle → Option ExpressionHandle → ExpressionHandle → Request
store_request at i c l v = record (image_request at Store i c l) { value = Some (components_of (at v.index)) }

-- the request of one statement, if it makes one
abbrev pub store_request_of : Values → Statement → Option Request
store_request_of at (Emit r) = None
store_request_of at (ImageStore i c l v) = Some (store_request at i c l v)

-- the store requests, in the order of the statements
unfoldable pub stores : Values → List Statement → List Request
stores at [] = []
stores at (Emit r ∷ ss) = stores at ss
stores at (ImageStore i c l v ∷ ss) = store_request at i c l v ∷ stores at ss

-- how many there are
unfoldable pub store_count : List Statement → ℕ
store_count [] = 0
store_count (Emit r ∷ ss) = store_count ss
store_count (ImageStore i c l v ∷ ss) = suc (store_count ss)
