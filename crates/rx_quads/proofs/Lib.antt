pub mod RaisedLemmas
pub mod CountLemmas
pub mod QuadLemmas
