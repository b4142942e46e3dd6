use Rattle.images.proofs.find.+get_image_expr_ty.Given as goal

-- a base lies below
abbrev pub decreases-get_image_expr_ty : goal.decreases-get_image_expr_ty
decreases-get_image_expr_ty l = l.handle.index
