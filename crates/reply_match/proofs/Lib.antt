pub mod PeerLaws
pub mod VerdictLaws
pub mod CallerLemmas
