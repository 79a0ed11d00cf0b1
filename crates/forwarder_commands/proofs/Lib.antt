pub use Rattle.serving_loop.proofs.TheoremUse as TheoremUse
